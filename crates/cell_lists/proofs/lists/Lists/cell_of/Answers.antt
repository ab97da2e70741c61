-- Contracts see the lists as the map that the chains say.
use Rattle.std.proofs.Common.{sym, ap, ◌∙◌}
use Rattle.std.specs.FinMap as map
use Rattle.cell_lists.specs.Listing.{ListsData}
use Rattle.cell_lists.proofs.Listed.{cell_of, cells_seen}
use Rattle.cell_lists.proofs.lists.Lists.cell_of.Goals as goal

pub returns-clause-value : goal.returns-clause-value
returns-clause-value c =
    c.cell_of.ensures ∙ sym (cell_of c.self.inside.chains.cells c.args.disk)
    ∙ ap (λ (l : ListsData). map.get l.cells c.args.disk) c.self.view_is

pub returns-clause-kept : goal.returns-clause-kept
returns-clause-kept c =
    cells_seen c.self.inside.grid c.self.inside.chains.cells c.args.self.now c.self.view_is c.self.invariant
