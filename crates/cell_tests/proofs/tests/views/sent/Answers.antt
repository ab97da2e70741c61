-- What a region sees is in cells of the grid.
use Rattle.std.proofs.Common.{◌≡◌, Some, None, Result, Ok, Err, sym, subst}
use Rattle.std.specs.Prelude.{IfOk}
use Rattle.std.specs.Result.{result_ok}
use Rattle.cell_grid.specs.Grid.{GridData, IsCell}
use Rattle.region_view.specs.Placing.{IsValidPlacing}
use Rattle.region_view.specs.Views.{ViewData, rows_in}
use Rattle.cell_tests.proofs.tests.views.sent.Goals as goal

of_answer : {E : Type 0} (P : ViewData → Type 0) (result : Result ViewData E) (view : ViewData) → IfOk result P →
    Some view ≡ result_ok result → P view
of_answer P (Ok v) view h e = subst P (let e : Some view ≡ Some v = e in let same : v ≡ view = cc in same) h
of_answer P (Err f) view h e = absurd (let e : Some view ≡ None = e in cc)

pub message_for-requires-clause-cells : goal.message_for-requires-clause-cells
message_for-requires-clause-cells c = λ i p at.
    subst (λ (grid : GridData). IsCell grid p.cell) (sym c.grid-grid.ensures.value)
    ((of_answer (λ view. IsValidPlacing c.args.state.now.rules c.args.state.now.grid (rows_in view)) c.view_of.result
    c.in_ok-before.before c.view_of.ensures c.in_ok-before.ensures.value).cell i p at)
