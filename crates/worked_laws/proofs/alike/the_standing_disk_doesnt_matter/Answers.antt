-- The two have by themselves one run.
use Rattle.std.proofs.Common.{[], ◌∷◌}
use Rattle.event_rules.specs.declared.outcome.Outcome.TheVariants.{Done}
use Rattle.event_rules.proofs.OneRun.{one_run}
use Rattle.alike_runs.specs.Bystander.{changes_without, outcome_without}
use Rattle.worked_laws.specs.Pair.{pair_rules, pair_disks, the_hit, pair_end}
use Rattle.worked_laws.specs.Others.{three_disks}
use Rattle.worked_laws.proofs.PairRun.{pair_run}
use Rattle.worked_laws.proofs.alike.the_standing_disk_doesnt_matter.Goals as goal

pub returns : goal.returns
returns c changes outcome run meets ends =
    one_run pair_rules pair_disks (changes_without 0 changes) (the_hit ∷ []) (outcome_without 0 outcome) (Done pair_end)
    (c.bystanders_dont_matter.ensures 0 pair_rules three_disks changes outcome run meets ends) pair_run
