use Rattle.cell_sequence.specs.State.{opening_state}
use Rattle.worker_tests.proofs.tests.many_bursts.bursts_met_in.Given as goal

abbrev pub ghosts-burst_with_helpers : goal.ghosts-burst_with_helpers
ghosts-burst_with_helpers g a = record { opening = opening_state a.scene.now 64 }
