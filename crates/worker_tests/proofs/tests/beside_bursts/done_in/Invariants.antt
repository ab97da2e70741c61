use Rattle.cell_sequence.specs.State.{opening_state}
use Rattle.worker_tests.proofs.tests.beside_bursts.done_in.Given as goal

abbrev pub ghosts-burst_beside : goal.ghosts-burst_beside
ghosts-burst_beside a = record { opening = opening_state a._scene.now 4 }
