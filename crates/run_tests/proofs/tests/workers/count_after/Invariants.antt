use Rattle.cell_sequence.specs.State.{opening_state}
use Rattle.run_tests.proofs.tests.workers.count_after.Given as goal

abbrev pub ghosts-count_of : goal.ghosts-count_of
ghosts-count_of g a = record { opening = opening_state a._scene.now 4 }
