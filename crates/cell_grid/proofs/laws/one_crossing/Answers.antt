use Rattle.cell_grid.proofs.Leaving.{one_crossing}
use Rattle.cell_grid.proofs.laws.one_crossing.Goals as goal

pub returns : goal.returns
returns c = one_crossing
