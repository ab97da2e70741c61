use Rattle.cell_grid.proofs.Links.{links_are_mutual}
use Rattle.cell_grid.proofs.laws.links_are_mutual.Goals as goal

pub returns : goal.returns
returns c = links_are_mutual
