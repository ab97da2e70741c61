-- At each of the two events no other is due.
use Rattle.std.proofs.Common.{ap}
use Rattle.event_stamps.specs.declared.Stamp.{Stamp}
use Rattle.event_rules.specs.declared.outcome.Outcome.TheVariants.{Done}
use Rattle.alike_runs.specs.Exchanged.{MeetsNoCorner}
use Rattle.worked_laws.specs.Pair.{pair_rules}
use Rattle.worked_laws.specs.Glance.{glance_disks, glance_changes, glance_end}
use Rattle.worked_laws.proofs.GlanceRun.{glance_run, only_glance, only_landing}
use Rattle.worked_laws.proofs.alike.the_exchanged_glance_runs.Goals as goal

no_corner : MeetsNoCorner pair_rules glance_disks glance_changes (Done glance_end)
no_corner = (
  λ wall t candidate tick kind first. ap (λ (s : Stamp). s.second) (only_glance t candidate),
  (λ wall t candidate tick kind first. ap (λ (s : Stamp). s.second) (only_landing t candidate), tt),
)

pub returns : goal.returns
returns c = c.runs_exchange.ensures pair_rules glance_disks glance_changes (Done glance_end) glance_run no_corner
