use Rattle.cell_grid.proofs.Owners.{each_cell_has_one_owner}
use Rattle.cell_grid.proofs.laws.each_cell_has_one_owner.Goals as goal

pub returns : goal.returns
returns c = each_cell_has_one_owner
