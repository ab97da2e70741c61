use Rattle.cell_sequence.specs.State.{opening_state}
use Rattle.run_tests.proofs.tests.bursts.run_by_workers.Given as goal

abbrev pub ghosts-run_under_locks : goal.ghosts-run_under_locks
ghosts-run_under_locks g a = record { opening = opening_state a.scene.now 4 }
