use Rattle.cell_grid.proofs.Leaving.{leaves_after_last}
use Rattle.cell_grid.proofs.laws.leaves_after_last.Goals as goal

pub returns : goal.returns
returns c = leaves_after_last
