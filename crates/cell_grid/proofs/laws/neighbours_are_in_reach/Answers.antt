use Rattle.cell_grid.proofs.Owners.{neighbours_are_in_reach}
use Rattle.cell_grid.proofs.laws.neighbours_are_in_reach.Goals as goal

pub returns : goal.returns
returns c = neighbours_are_in_reach
