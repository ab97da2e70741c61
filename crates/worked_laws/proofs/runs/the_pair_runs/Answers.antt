-- The scene has a run, and it can have no other.
use Rattle.std.proofs.Common.{List, subst}
use Rattle.event_rules.specs.declared.change.Change.{Change}
use Rattle.event_rules.specs.declared.outcome.Outcome.{Outcome}
use Rattle.event_rules.specs.declared.outcome.Outcome.TheVariants.{Done}
use Rattle.event_rules.specs.Run.{IsRun}
use Rattle.worked_laws.specs.Pair.{pair_scene, pair_end}
use Rattle.worked_laws.proofs.Only.{only_run}
use Rattle.worked_laws.proofs.ValidRows.{pair_valid}
use Rattle.worked_laws.proofs.runs.the_pair_runs.Goals as goal

pub returns : goal.returns
returns c =
    let found = c.each_scene_runs.ensures pair_scene pair_valid in
    let only = only_run found.0 found.1 found.2 in
    subst (λ (changes : List Change). IsRun pair_scene changes (Done pair_end)) only.0
    (subst (λ (outcome : Outcome). IsRun pair_scene found.0 outcome) only.1 found.2)
