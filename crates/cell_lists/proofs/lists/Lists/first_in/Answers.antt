-- Contracts see the lists as the map that the chains say.
use Rattle.cell_lists.proofs.Listed.{first_seen}
use Rattle.cell_lists.proofs.lists.Lists.first_in.Goals as goal

pub returns : goal.returns
returns c =
    first_seen c.self.inside.grid c.self.inside.chains.cells c.args.self.now c.args.cell 0 c.first_in.result c.self.view_is c.first_in.ensures
