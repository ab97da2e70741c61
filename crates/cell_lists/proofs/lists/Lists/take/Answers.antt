-- Contracts see the lists as the map that the chains say.
use Rattle.std.proofs.Common.{ap}
use Rattle.std.proofs.lemmas.Option.{none-some}
use Rattle.std.specs.Prelude.{Some, None}
use Rattle.cell_lists.specs.Chain.{ChainsData}
use Rattle.cell_lists.proofs.Listed.{cell_seen, listed_within, still_cells, take_seen}
use Rattle.cell_lists.proofs.lists.Lists.take.Goals as goal

pub take-requires : goal.take-requires
take-requires c =
    cell_seen c.self.inside.grid c.self.inside.chains.cells c.args.self.now c.args.disk (Some c.args.cell) c.self.view_is c.requires

pub returns : goal.returns
returns c =
    take_seen c.self.inside.grid c.self.inside.chains.cells c.take.new.self.cells c.args.self.now c.args.disk c.args.cell c.self.view_is
    (cell_seen c.self.inside.grid c.self.inside.chains.cells c.args.self.now c.args.disk (Some c.args.cell) c.self.view_is c.requires) (ap (λ (d : ChainsData). d.cells) c.take.ensures)

pub invariant_of-self : goal.invariant_of-self
invariant_of-self c =
    let cells = c.self.inside.chains.cells in
    let here = cell_seen c.self.inside.grid cells c.args.self.now c.args.disk (Some c.args.cell) c.self.view_is c.requires in
    still_cells c.self.inside.grid cells c.take.new.self.cells c.args.disk None c.self.invariant (listed_within cells c.args.disk c.args.cell here)
    (λ cell e. absurd (none-some cell e)) (ap (λ (d : ChainsData). d.cells) c.take.ensures)
