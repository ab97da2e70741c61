use Rattle.cell_grid.proofs.Leaving.{crosses_later}
use Rattle.cell_grid.proofs.laws.crosses_later.Goals as goal

pub returns : goal.returns
returns c = crosses_later
