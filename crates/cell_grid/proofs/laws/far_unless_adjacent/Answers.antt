use Rattle.cell_grid.proofs.Cells.{far_unless_adjacent}
use Rattle.cell_grid.proofs.laws.far_unless_adjacent.Goals as goal

pub returns : goal.returns
returns c = far_unless_adjacent
