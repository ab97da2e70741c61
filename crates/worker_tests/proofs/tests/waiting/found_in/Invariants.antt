use Rattle.cell_sequence.specs.State.{opening_state}
use Rattle.worker_tests.proofs.tests.waiting.found_in.Given as goal

abbrev pub ghosts-found_under_locks : goal.ghosts-found_under_locks
ghosts-found_under_locks g a = record { opening = opening_state a._scene.now 4 }
