-- Contracts see the lists as the map that the chains say.
use Rattle.std.proofs.Common.{◌+◌}
use Rattle.std.specs.Prelude.{Some}
use Rattle.cell_lists.proofs.Listed.{cell_seen, first_seen}
use Rattle.cell_lists.proofs.lists.Lists.next_in.Goals as goal

pub next_in-requires : goal.next_in-requires
next_in-requires c =
    cell_seen c.self.inside.grid c.self.inside.chains.cells c.args.self.now c.args.disk (Some c.args.cell) c.self.view_is c.requires

pub returns : goal.returns
returns c =
    first_seen c.self.inside.grid c.self.inside.chains.cells c.args.self.now c.args.cell (c.args.disk + 1) c.next_in.result c.self.view_is
    c.next_in.ensures
