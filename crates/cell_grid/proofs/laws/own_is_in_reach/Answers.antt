use Rattle.cell_grid.proofs.Owners.{own_is_in_reach}
use Rattle.cell_grid.proofs.laws.own_is_in_reach.Goals as goal

pub returns : goal.returns
returns c = own_is_in_reach
