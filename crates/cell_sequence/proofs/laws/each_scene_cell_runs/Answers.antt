use Rattle.cell_sequence.proofs.Exists.{each_scene_cell_runs}
use Rattle.cell_sequence.proofs.laws.each_scene_cell_runs.Goals as goal

pub returns : goal.returns
returns c = each_scene_cell_runs
