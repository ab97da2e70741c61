use Rattle.cell_grid.proofs.Cells.{places_have_cells}
use Rattle.cell_grid.proofs.laws.places_have_cells.Goals as goal

pub returns : goal.returns
returns c = places_have_cells
