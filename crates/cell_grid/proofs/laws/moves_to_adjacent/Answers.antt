use Rattle.cell_grid.proofs.Leaving.{moves_to_adjacent}
use Rattle.cell_grid.proofs.laws.moves_to_adjacent.Goals as goal

pub returns : goal.returns
returns c = moves_to_adjacent
