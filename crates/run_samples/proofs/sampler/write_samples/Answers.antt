-- What is due, by the sample.
use Rattle.std.proofs.Common.{sym, subst}
use Rattle.report_ports.specs.Ports.{MayTake}
use Rattle.collision_report.specs.Writes.{Writes}
use Rattle.run_samples.specs.declared.sample.Sample.{Sample}
use Rattle.run_samples.specs.Meaning.{due_samples}
use Rattle.run_samples.proofs.sampler.write_samples.Goals as goal

pub returns-in-States : goal.returns-in-States
returns-in-States g c = let K = g.K.Sink in
    subst (λ (sample : Sample). Writes K.taken K.faults K.lasting c.args.sink.now c.write_due.new.sink c.write_due.result
    (due_samples sample c.args.table.now c.args.sums.now c.args.tick)) (sym c.in-States.is) c.write_due.ensures

pub returns-in-Sums : goal.returns-in-Sums
returns-in-Sums g c = let K = g.K.Sink in
    subst (λ (sample : Sample). Writes K.taken K.faults K.lasting c.args.sink.now c.write_due_sums.new.sink c.write_due_sums.result
    (due_samples sample c.args.table.now c.args.sums.now c.args.tick)) (sym c.in-Sums.is) c.write_due_sums.ensures

pub write_due-requires : goal.write_due-requires
write_due-requires g c = let K = g.K.Sink in
    subst (λ (sample : Sample). MayTake (K.allows (K.lasting c.args.sink.now)) (K.taken c.args.sink.now)
    (due_samples sample c.args.table.now c.args.sums.now c.args.tick)) c.in-States.is c.requires

pub write_due_sums-requires : goal.write_due_sums-requires
write_due_sums-requires g c = let K = g.K.Sink in
    subst (λ (sample : Sample). MayTake (K.allows (K.lasting c.args.sink.now)) (K.taken c.args.sink.now)
    (due_samples sample c.args.table.now c.args.sums.now c.args.tick)) c.in-Sums.is c.requires
