use Rattle.cell_sequence.specs.State.{opening_state}
use Rattle.program_modes.proofs.engines.Engine.run.Given as goal

-- the type stands for the run of this scene
abbrev pub ghosts-run_of : goal.ghosts-run_of
ghosts-run_of g a = record { opening = opening_state a.scene.now a.self.now.count }
