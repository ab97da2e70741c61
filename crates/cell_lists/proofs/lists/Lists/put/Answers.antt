-- Contracts see the lists as the map that the chains say.
use Rattle.std.proofs.Common.{ap, sym, subst, ◌≡◌, ◌∙◌}
use Rattle.std.specs.Prelude.{Some, None}
use Rattle.std.proofs.lemmas.Option.{same_Some}
use Rattle.cell_grid.specs.Grid.{IsCell}
use Rattle.cell_lists.specs.Chain.{ChainsData, cells_in}
use Rattle.cell_lists.specs.Listing.{ListsData, lists_of}
use Rattle.cell_lists.proofs.Listed.{cell_seen, put_seen, same_seen, still_cells, on_err}
use Rattle.cell_lists.proofs.lists.Lists.put.Goals as goal

pub returns-in_err-make_room-clause-unchanged : goal.returns-in_err-make_room-clause-unchanged
returns-in_err-make_room-clause-unchanged c =
    on_err c.from_residual.result (lists_of c.self.inside.grid (cells_in c.make_room.new.self.cells) ≡ c.args.self.now)
    (same_seen c.self.inside.grid c.self.inside.chains.cells c.make_room.new.self.cells c.args.self.now c.self.view_is c.make_room.ensures.same)

pub put-requires-clause-free : goal.put-requires-clause-free
put-requires-clause-free c =
    c.make_room.ensures.same c.args.disk
    ∙ cell_seen c.self.inside.grid c.self.inside.chains.cells c.args.self.now c.args.disk None c.self.view_is c.requires.free

pub returns-clause-listed : goal.returns-clause-listed
returns-clause-listed c =
    put_seen c.self.inside.grid c.self.inside.chains.cells c.make_room.new.self.cells c.put.new.self.cells c.args.self.now c.args.disk c.args.cell c.self.view_is
    c.make_room.ensures.same c.in_ok-make_room.ensures.room (ap (λ (d : ChainsData). d.cells) c.put.ensures)

pub invariant_of-self : goal.invariant_of-self
invariant_of-self c = λ disk cell here. c.self.invariant disk cell (sym (c.make_room.ensures.same disk) ∙ here)

pub invariant_of-self-2 : goal.invariant_of-self-2
invariant_of-self-2 c =
    let is = subst (λ (l : ListsData). IsCell l.grid c.args.cell) (sym c.self.view_is) c.requires.cell in
    still_cells c.self.inside.grid c.make_room.new.self.cells c.put.new.self.cells c.args.disk (Some c.args.cell)
    (λ disk cell here. c.self.invariant disk cell (sym (c.make_room.ensures.same disk) ∙ here)) c.in_ok-make_room.ensures.room
    (λ cell e. subst (IsCell c.self.inside.grid) (same_Some c.args.cell cell e) is) (ap (λ (d : ChainsData). d.cells) c.put.ensures)
