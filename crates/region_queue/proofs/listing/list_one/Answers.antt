-- The disk is listed again, unless it keeps its cell.
use Rattle.std.proofs.Common.{◌≡◌, sym, subst, ◌∙◌}
use Rattle.std.specs.Prelude.{Some}
use Rattle.cell_grid.specs.Grid.{GridData, IsCell}
use Rattle.region_view.specs.Views.{rows_in}
use Rattle.region_queue.specs.Finding.{cell_in}
use Rattle.region_queue.proofs.Again.{same_cell, listed_again, listed_nowhere, listed_still}
use Rattle.region_queue.proofs.Outside.{placed_in}
use Rattle.region_queue.proofs.listing.list_one.Goals as goal

pub put-requires-clause-free : goal.put-requires-clause-free
put-requires-clause-free c = c.take_off.ensures.free

pub put-requires-clause-cell : goal.put-requires-clause-cell
put-requires-clause-cell c =
    let at : cell_in c.args.view.now c.args.disk ≡ Some c.in-Some.cell = sym c.cell_in-cell.ensures ∙ c.in-Some.is in
    let row = placed_in (rows_in c.args.view.now c.args.disk) c.in-Some.cell at in
    subst (λ (g : GridData). IsCell g c.in-Some.cell) (sym c.take_off.ensures.grid)
    (subst (IsCell c.args.lists.now.grid) row.2 (c.requires c.args.disk row.0 row.1))

pub returns-then-eq-clause-listed : goal.returns-then-eq-clause-listed
returns-then-eq-clause-listed c =
    listed_still c.args.view.now c.args.disk c.args.lists.now.cells
    (sym c.cell_of.ensures.value ∙ same_cell c.cell_of.result c.cell_in-cell.result c.if-eq.ensures ∙ c.cell_in-cell.ensures)

pub returns-in_ok-put-clause-listed : goal.returns-in_ok-put-clause-listed
returns-in_ok-put-clause-listed c =
    listed_again c.args.view.now c.args.disk c.in-Some.cell c.args.lists.now c.take_off.new.lists c.put.new.self
    (sym c.cell_in-cell.ensures ∙ c.in-Some.is) c.take_off.ensures c.in_ok-put.ensures.listed

pub returns-in_default-clause-listed : goal.returns-in_default-clause-listed
returns-in_default-clause-listed c =
    listed_nowhere c.args.view.now c.args.disk c.args.lists.now c.take_off.new.lists
    (sym c.cell_in-cell.ensures ∙ c.in_default.is) c.take_off.ensures
