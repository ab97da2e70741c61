use Rattle.cell_grid.proofs.Cells.{grids_have_sizes}
use Rattle.cell_grid.proofs.laws.grids_have_sizes.Goals as goal

pub returns : goal.returns
returns c = grids_have_sizes
