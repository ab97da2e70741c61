-- The rows of a cell state are valid, and so is what a region sees of them.
use Rattle.std.proofs.Common.{◌≤◌, List, length, slice_get, sym, subst}
use Rattle.cell_grid.specs.Grid.{GridData}
use Rattle.region_view.specs.declared.action.Placed.{Placed}
use Rattle.region_view.specs.Laws.{HasCells}
use Rattle.cell_tests.proofs.Views.{few_rows, rows_have_cells, answers_are_valid}
use Rattle.cell_tests.proofs.tests.helpers.view_of.Goals as goal

pub opening-requires-clause-count : goal.opening-requires-clause-count
opening-requires-clause-count c =
    subst (λ (placed : List Placed). length placed ≤ 65536) (sym c.placed.ensures.value)
    (few_rows c.args.state.now c.placed.ensures.kept)

pub opening-requires-clause-cells : goal.opening-requires-clause-cells
opening-requires-clause-cells c =
    subst (λ (grid : GridData). HasCells grid (slice_get c.placed.result.now)) (sym c.grid.ensures.value)
    (subst (λ (placed : List Placed). HasCells c.args.state.now.grid (slice_get placed))
    (sym c.placed.ensures.value) (rows_have_cells c.args.state.now c.placed.ensures.kept))

pub returns : goal.returns
returns c =
    answers_are_valid c.args.state.now c.args.region c.grid.result.now c.placed.result.now c.opening.result
    c.placed.ensures.kept c.grid.ensures.value c.placed.ensures.value c.opening.ensures
