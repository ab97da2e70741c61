use Rattle.cell_grid.proofs.Cells.{touch_in_adjacent}
use Rattle.cell_grid.proofs.laws.touch_in_adjacent.Goals as goal

pub returns : goal.returns
returns c = touch_in_adjacent
