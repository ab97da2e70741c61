use Rattle.cell_grid.proofs.Owners.{reach_is_beside_own}
use Rattle.cell_grid.proofs.laws.reach_is_beside_own.Goals as goal

pub returns : goal.returns
returns c = reach_is_beside_own
