-- The whole run is known, and its sums.
use Rattle.std.proofs.Common.{List, sym, ap, ◌∙◌, arith}
use Rattle.event_rules.specs.declared.change.Change.{Change}
use Rattle.resume.specs.Shift.{later_outcome}
use Rattle.resume.proofs.InParts.{parts_make_runs}
use Rattle.sampled_laws.specs.Laws.{sums_of_run}
use Rattle.worked_laws.specs.Glance.{glance_scene}
use Rattle.worked_laws.proofs.GlanceRun.{only_changes}
use Rattle.worked_laws.proofs.ValidRows.{glance_valid}
use Rattle.worked_laws.proofs.sums.the_parts_of_the_glance_add_up.Goals as goal

pub returns : goal.returns
returns c first more spots outcome before rest =
    let whole = (parts_make_runs glance_scene 3 first spots glance_valid (omega arith) before).1 more outcome rest in
    sym (c.sums_of_parts_add_up.ensures 0 3 glance_scene first more spots outcome glance_valid (omega arith) before rest)
    ∙ ap (λ (cs : List Change). sums_of_run 0 glance_scene cs) (only_changes _ (later_outcome 3 outcome) whole)
