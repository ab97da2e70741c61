use Rattle.std.proofs.Common.{◌∙◌, ℕ, codes, ap, sym, subst}
use Rattle.collision_report.specs.declared.format.Format.TheVariants.{Summary}
use Rattle.collision_report.specs.Meaning.{TableData, so_far}
use Rattle.collision_report.proofs.Awaited.{quiet_awaits}
use Rattle.resume.proofs.Beginnings.{steps_of_all}
use Rattle.program_modes.specs.declared.status.Status.{Status}
use Rattle.program_modes.specs.declared.cut.Cut.{Cut}
use Rattle.program_modes.specs.Output.{IsSceneText, IsCutText}
use Rattle.program_modes.specs.Answers.{Wrote, MayWrite, CountsWrites}
use Rattle.program_modes.specs.Shows.{status_of_fault}
use Rattle.program_modes.proofs.Wrote.{kept, broken_wrote}
use Rattle.program_modes.proofs.Watched.{broken_counts, given_text, given_counts}
use Rattle.program_modes.proofs.Left.{unwritten, cut_part, cut_rest, cut_limit, rest_may, limit_may}
use Rattle.program_modes.proofs.rest.write_rest.Goals as goal

pub returns-in_default-clause-wrote : goal.returns-in_default-clause-wrote
returns-in_default-clause-wrote g c =
    let taken = g.K.Sink.taken c.args.sink.now in
    unwritten c.args.format c.args.at c.args.scene.now taken taken c.requires.at c.count-count.ensures.valid (kept taken)

pub cut_by-requires-clause-awaited : goal.cut_by-requires-clause-awaited
cut_by-requires-clause-awaited g c κs within =
    let K = g.K.Sink in let scene = c.args.scene.now in
    let first = c.new-reporter.ensures.meaning ∙ ap (λ (t : TableData). so_far Summary t (K.taken c.args.sink.now) 0 0) c.in-Ok.ensures in
    λ changes later steps. quiet_awaits (λ loan. K.allows loan.1) scene (K.taken c.args.sink.now) _ changes later c.count-count.ensures.valid first
    (steps_of_all scene.rules c.args.at scene.disks changes later c.requires.at steps)

pub returns-in-Ok-Rest-clause-wrote : goal.returns-in-Ok-Rest-clause-wrote
returns-in-Ok-Rest-clause-wrote g c =
    let K = g.K.Sink in let scene = c.args.scene.now in
    let first = c.new-reporter.ensures.meaning ∙ ap (λ (t : TableData). so_far Summary t (K.taken c.args.sink.now) 0 0) c.in-Ok.ensures in
    let told = cut_rest c.args.format c.args.at scene c.in-Ok-Rest.rest (K.taken c.args.sink.now) _ _ c.in-Ok-Rest.field-0
    c.in-Ok-Rest.field-0-is c.in-Ok-Rest.ensures.cut c.requires.at first in
    let loan = ap (λ l. l.0) told.sink ∙ c.new-reporter.ensures.loan in
    let last = c.in-Ok-Rest.sink-1-own.given.1 (sym loan) in
    told.wrote _ _ (subst (λ v. Wrote (IsSceneText (codes "rest") c.args.format c.in-Ok-Rest.rest) (K.taken v) (K.taken c.write_scene.new.sink) c.write_scene.result)
    last c.write_scene.ensures.wrote)

pub returns-in-Ok-Rest-clause-counts : goal.returns-in-Ok-Rest-clause-counts
returns-in-Ok-Rest-clause-counts g c =
    let K = g.K.Sink in let scene = c.args.scene.now in
    let first = c.new-reporter.ensures.meaning ∙ ap (λ (t : TableData). so_far Summary t (K.taken c.args.sink.now) 0 0) c.in-Ok.ensures in
    let told = cut_rest c.args.format c.args.at scene c.in-Ok-Rest.rest (K.taken c.args.sink.now) _ _ c.in-Ok-Rest.field-0
    c.in-Ok-Rest.field-0-is c.in-Ok-Rest.ensures.cut c.requires.at first in
    let loan = ap (λ l. l.0) told.sink ∙ c.new-reporter.ensures.loan in
    let last = c.in-Ok-Rest.sink-1-own.given.1 (sym loan) in
    let same = ap K.faults last ∙ c.in-Ok-Rest.ensures.counts ∙ ap K.faults c.new-reporter.ensures.sink in
    subst (λ (n : ℕ). CountsWrites n (K.faults c.write_scene.new.sink) c.write_scene.result) same c.write_scene.ensures.counts

pub end-requires-clause-outcome : goal.end-requires-clause-outcome
end-requires-clause-outcome g c =
    let K = g.K.Sink in let scene = c.args.scene.now in
    let first = c.new-reporter.ensures.meaning ∙ ap (λ (t : TableData). so_far Summary t (K.taken c.args.sink.now) 0 0) c.in-Ok.ensures in
    let told = cut_limit c.args.format c.args.at scene c.in-Ok-Limit.limit (K.taken c.args.sink.now) _ _ c.in-Ok-Limit.field-0
    c.in-Ok-Limit.field-0-is c.in-Ok-Limit.ensures.cut c.requires.at c.count-count.ensures.valid first in
    told.outcome

pub end-requires-clause-scene : goal.end-requires-clause-scene
end-requires-clause-scene g c =
    let K = g.K.Sink in let scene = c.args.scene.now in
    let first = c.new-reporter.ensures.meaning ∙ ap (λ (t : TableData). so_far Summary t (K.taken c.args.sink.now) 0 0) c.in-Ok.ensures in
    let told = cut_limit c.args.format c.args.at scene c.in-Ok-Limit.limit (K.taken c.args.sink.now) _ _ c.in-Ok-Limit.field-0
    c.in-Ok-Limit.field-0-is c.in-Ok-Limit.ensures.cut c.requires.at c.count-count.ensures.valid first in
    told.table

pub returns-in-Ok-Limit-clause-wrote : goal.returns-in-Ok-Limit-clause-wrote
returns-in-Ok-Limit-clause-wrote g c =
    let K = g.K.Sink in let scene = c.args.scene.now in
    let first = c.new-reporter.ensures.meaning ∙ ap (λ (t : TableData). so_far Summary t (K.taken c.args.sink.now) 0 0) c.in-Ok.ensures in
    let told = cut_limit c.args.format c.args.at scene c.in-Ok-Limit.limit (K.taken c.args.sink.now) _ _ c.in-Ok-Limit.field-0
    c.in-Ok-Limit.field-0-is c.in-Ok-Limit.ensures.cut c.requires.at c.count-count.ensures.valid first in
    let loan = c.end.ensures.loan ∙ ap (λ l. l.0) told.sink ∙ c.new-reporter.ensures.loan in
    let last = c.sink-in-Ok-Limit-1.given.1 (sym loan) in
    subst (λ v. Wrote (IsCutText c.args.format c.args.at scene) (K.taken c.args.sink.now) (K.taken v) c.status_at_end.result) (sym last)
    (told.ended _ _ (given_text c.end.result _ _ c.status_at_end.result c.status_at_end.ensures.status c.end.ensures.writes))

pub returns-in-Ok-Limit-clause-counts : goal.returns-in-Ok-Limit-clause-counts
returns-in-Ok-Limit-clause-counts g c =
    let K = g.K.Sink in let scene = c.args.scene.now in
    let first = c.new-reporter.ensures.meaning ∙ ap (λ (t : TableData). so_far Summary t (K.taken c.args.sink.now) 0 0) c.in-Ok.ensures in
    let told = cut_limit c.args.format c.args.at scene c.in-Ok-Limit.limit (K.taken c.args.sink.now) _ _ c.in-Ok-Limit.field-0
    c.in-Ok-Limit.field-0-is c.in-Ok-Limit.ensures.cut c.requires.at c.count-count.ensures.valid first in
    let loan = c.end.ensures.loan ∙ ap (λ l. l.0) told.sink ∙ c.new-reporter.ensures.loan in
    let last = c.sink-in-Ok-Limit-1.given.1 (sym loan) in
    let same = c.in-Ok-Limit.ensures.counts ∙ ap K.faults c.new-reporter.ensures.sink in
    subst (λ v. CountsWrites (K.faults c.args.sink.now) (K.faults v) c.status_at_end.result) (sym last)
    (given_counts c.end.result _ _ c.status_at_end.result (K.faults c.args.sink.now) c.status_at_end.ensures.status same c.end.ensures.writes)

pub returns-clause-wrote : goal.returns-clause-wrote
returns-clause-wrote g c =
    let K = g.K.Sink in let scene = c.args.scene.now in
    let first = c.new-reporter.ensures.meaning ∙ ap (λ (t : TableData). so_far Summary t (K.taken c.args.sink.now) 0 0) c.in-Ok.ensures in
    let told = cut_part c.args.format c.args.at scene (K.taken c.args.sink.now) _ _ c.in-Err.fault
    c.in-Err.ensures.cut_short c.requires.at c.count-count.ensures.valid first in
    let loan = ap (λ l. l.0) told.sink ∙ c.new-reporter.ensures.loan in
    let last = c.in-Err.sink-in-Err-cut_by-1-own.given.1 (sym loan) in
    subst (λ (s : Status). Wrote (IsCutText c.args.format c.args.at scene) (K.taken c.args.sink.now) (K.taken c.in-Err.sink-in-Err-cut_by-1-own.given.0) s)
    (sym c.status_of_fault.ensures.status)
    (subst (λ v. Wrote (IsCutText c.args.format c.args.at scene) (K.taken c.args.sink.now) (K.taken v) (status_of_fault c.in-Err.fault)) (sym last)
    (broken_wrote _ _ _ c.in-Err.fault told.prefix))

pub returns-clause-counts : goal.returns-clause-counts
returns-clause-counts g c =
    let K = g.K.Sink in let scene = c.args.scene.now in
    let first = c.new-reporter.ensures.meaning ∙ ap (λ (t : TableData). so_far Summary t (K.taken c.args.sink.now) 0 0) c.in-Ok.ensures in
    let told = cut_part c.args.format c.args.at scene (K.taken c.args.sink.now) _ _ c.in-Err.fault
    c.in-Err.ensures.cut_short c.requires.at c.count-count.ensures.valid first in
    let loan = ap (λ l. l.0) told.sink ∙ c.new-reporter.ensures.loan in
    let last = c.in-Err.sink-in-Err-cut_by-1-own.given.1 (sym loan) in
    subst (λ (s : Status). CountsWrites (K.faults c.args.sink.now) (K.faults c.in-Err.sink-in-Err-cut_by-1-own.given.0) s)
    (sym c.status_of_fault.ensures.status)
    (subst (λ v. CountsWrites (K.faults c.args.sink.now) (K.faults v) (status_of_fault c.in-Err.fault)) (sym last)
    (broken_counts Cut _ _ _ c.in-Err.fault c.in-Err.ensures.counts (ap K.faults c.new-reporter.ensures.sink)))

pub write_scene-requires-clause-allowed : goal.write_scene-requires-clause-allowed
write_scene-requires-clause-allowed g c =
    let K = g.K.Sink in let scene = c.args.scene.now in
    let first = c.new-reporter.ensures.meaning ∙ ap (λ (t : TableData). so_far Summary t (K.taken c.args.sink.now) 0 0) c.in-Ok.ensures in
    let told = cut_rest c.args.format c.args.at scene c.in-Ok-Rest.rest (K.taken c.args.sink.now) _ _ c.in-Ok-Rest.field-0
    c.in-Ok-Rest.field-0-is c.in-Ok-Rest.ensures.cut c.requires.at first in
    let loan = ap (λ l. l.0) told.sink ∙ c.new-reporter.ensures.loan in
    let last = c.in-Ok-Rest.sink-1-own.given.1 (sym loan) in
    subst (λ v. MayWrite (IsSceneText (codes "rest") c.args.format c.in-Ok-Rest.rest) (K.allows (K.lasting v)) (K.taken v)) (sym last)
    (rest_may (λ loan. K.allows loan.1) c.args.format c.args.at scene c.in-Ok-Rest.rest (K.taken c.args.sink.now) _ _ c.in-Ok-Rest.field-0
    c.in-Ok-Rest.field-0-is c.in-Ok-Rest.ensures.cut c.requires.at first
    (subst (λ sink. MayWrite (IsCutText c.args.format c.args.at scene) (K.allows (K.lasting sink)) (K.taken c.args.sink.now))
    (sym c.new-reporter.ensures.sink) c.requires.allowed))

pub end-requires-clause-allowed : goal.end-requires-clause-allowed
end-requires-clause-allowed g c =
    let K = g.K.Sink in let scene = c.args.scene.now in
    let first = c.new-reporter.ensures.meaning ∙ ap (λ (t : TableData). so_far Summary t (K.taken c.args.sink.now) 0 0) c.in-Ok.ensures in
    limit_may (λ loan. K.allows loan.1) c.args.format c.args.at scene c.in-Ok-Limit.limit (K.taken c.args.sink.now) _ _ c.in-Ok-Limit.field-0
    c.in-Ok-Limit.field-0-is c.in-Ok-Limit.ensures.cut c.requires.at c.count-count.ensures.valid first
    (subst (λ sink. MayWrite (IsCutText c.args.format c.args.at scene) (K.allows (K.lasting sink)) (K.taken c.args.sink.now))
    (sym c.new-reporter.ensures.sink) c.requires.allowed)
