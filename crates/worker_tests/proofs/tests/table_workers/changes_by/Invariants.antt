use Rattle.cell_sequence.specs.State.{opening_state}
use Rattle.worker_tests.proofs.tests.table_workers.changes_by.Given as goal

-- the type stands for the run of this scene
abbrev pub ghosts-changes_of : goal.ghosts-changes_of
ghosts-changes_of g a = record { opening = opening_state a.scene.now 4 }
