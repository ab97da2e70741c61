use Rattle.program_modes.proofs.Answered.{scene_reading, scene_counts, read_whole, fault_audited, fault_counted}
use Rattle.program_modes.proofs.auditing.read_front.Goals as goal

pub returns-in-Ok-clause-reads : goal.returns-in-Ok-clause-reads
returns-in-Ok-clause-reads g c =
    let T = g.T.Source in let left = T.left c.args.source.now in let left' = T.left c.read_scene.new.source in
    let valid = c.count-count.ensures.valid in let reads = c.in-Ok.ensures.reads in
    (scene_reading left left' c.in-Ok.scene valid reads, read_whole left left' c.in-Ok.scene reads)

pub returns-in-Ok-clause-counts : goal.returns-in-Ok-clause-counts
returns-in-Ok-clause-counts g c = scene_counts _ _ c.in-Ok.scene c.in-Ok.ensures.counts

pub returns-in-Err-clause-reads : goal.returns-in-Err-clause-reads
returns-in-Err-clause-reads g c = let T = g.T.Source in
    fault_audited (T.left c.args.source.now) (T.left c.read_scene.new.source) c.in-Err.fault c.audit_fault.result c.in-Err.ensures.reads c.audit_fault.ensures

pub returns-in-Err-clause-counts : goal.returns-in-Err-clause-counts
returns-in-Err-clause-counts g c = let T = g.T.Source in
    fault_counted (T.faults c.args.source.now) (T.faults c.read_scene.new.source) c.in-Err.fault c.audit_fault.result c.in-Err.ensures.counts c.audit_fault.ensures
