-- The regions are of the run for which the type of the locks stands.
use Rattle.std.proofs.Common.{sym, subst}
use Rattle.cell_sequence.specs.State.{CellStateData}
use Rattle.run_floors.specs.Regions.{StandOfRun}
use Rattle.worker_tests.proofs.tests.many_bursts.burst_once.Goals as goal

pub burst-requires-clause-stand : goal.burst-requires-clause-stand
burst-requires-clause-stand g c lifetimes within = subst (λ (s : CellStateData). StandOfRun s c.in_ok-regions.regions.items)
    (sym c.requires.of) c.in_ok-regions.ensures.stand
