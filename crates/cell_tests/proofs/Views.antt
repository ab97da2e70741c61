-- The rows of a cell state are valid, and so is what a region sees of them.
use Rattle.std.proofs.Common.{◌≡◌, ℕ, ◌≤◌, List, length, slice_get, subst, Result, Ok, Err}
use Rattle.std.specs.Prelude.{IfOk}
use Rattle.std.proofs.lemmas.List.{length-map}
use Rattle.cell_grid.specs.Grid.{GridData}
use Rattle.region_view.specs.declared.action.Placed.{Placed}
use Rattle.region_view.specs.Laws.{HasCells}
use Rattle.region_view.specs.Placing.{IsValidPlacing}
use Rattle.region_view.specs.Views.{ViewData, rows_in, IsViewOf}
use Rattle.cell_sequence.specs.State.{CellStateData, IsCellState}
use Rattle.cell_sequence.proofs.Orderly.{cell_states_are_orderly}

pub few_rows : (state : CellStateData) → IsCellState state → length state.placed ≤ 65536
few_rows state is =
    subst (λ n. n ≤ 65536) (length-map state.placed (λ p. p.disk))
    (cell_states_are_orderly state is).records.count

pub rows_have_cells : (state : CellStateData) → IsCellState state →
    HasCells state.grid (slice_get state.placed)
rows_have_cells state is = (cell_states_are_orderly state is).rows.cell

pub views_are_valid : (state : CellStateData) (region : ℕ) (view : ViewData) → IsCellState state →
    IsViewOf state.grid region (slice_get state.placed) view →
    IsValidPlacing state.rules state.grid (rows_in view)
views_are_valid state region view is sees =
    let rows = (cell_states_are_orderly state is).rows in
    record {
      number = λ i p at. rows.number i p ((sees i p).0 at).0;
      disk = λ i p at. rows.disk i p ((sees i p).0 at).0;
      cell = λ i p at. rows.cell i p ((sees i p).0 at).0;
    }

-- so is each view that is answered
pub answers_are_valid : {E : Type 0} (state : CellStateData) (region : ℕ) (grid : GridData)
    (placed : List Placed) (result : Result ViewData E) → IsCellState state →
    grid ≡ state.grid → placed ≡ state.placed →
    IfOk result (λ view. IsViewOf grid region (slice_get placed) view) →
    IfOk result (λ view. IsValidPlacing state.rules state.grid (rows_in view))
answers_are_valid state region grid placed (Ok view) is g p sees =
    views_are_valid state region view is
    (subst (λ (rows : List Placed). IsViewOf state.grid region (slice_get rows) view) p
    (subst (λ (h : GridData). IsViewOf h region (slice_get placed) view) g sees))
answers_are_valid state region grid placed (Err e) is g p sees = sees
