use Rattle.cell_sequence.specs.State.{opening_state}
use Rattle.run_tests.proofs.tests.workers.after_turns.Given as goal

abbrev pub ghosts-after_turns_of : goal.ghosts-after_turns_of
ghosts-after_turns_of a = record { opening = opening_state a._scene.now 4 }
