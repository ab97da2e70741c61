-- One more cell of the row.
use Rattle.std.proofs.Common.{◌≡◌, ℕ, ◌+◌, ◌*◌, ◌≤◌, arith, sym, subst, ap, ◌∙◌}
use Rattle.std.specs.Prelude.{Option}
use Rattle.std.proofs.Math.Nat.{mul-le-mul_right}
use Rattle.event_stamps.specs.declared.Stamp.{Stamp}
use Rattle.event_stamps.specs.Least.{IsLeastOf}
use Rattle.cell_grid.specs.Grid.{GridData}
use Rattle.cell_lists.specs.Listing.{IsListed}
use Rattle.cell_lists.specs.Nearby.{IsListedWithin, columns_to}
use Rattle.region_queue.specs.Finding.{IsNativeWith}
use Rattle.cell_lists.proofs.Blocks.{no_column}
use Rattle.region_queue.proofs.Candidates.{with_none, column_more}
use Rattle.region_queue.proofs.Beside.{cell_within}
use Rattle.region_queue.proofs.finder.Finder.best_in_row.Goals as goal

start_small : (row columns : ℕ) → row ≤ 1024 → columns ≤ 1024 → row * columns ≤ 1024 * 1024
start_small row columns few_rows few_columns =
    let product : row * columns ≤ 1024 * columns = mul-le-mul_right columns few_rows in
    omega arith

pub loop-column-init : goal.loop-column-init
loop-column-init c = λ listed.
    let lists = c.args.self.now.lists in
    let Within = IsListedWithin lists (columns_to c.args.block c.args.row c.args.block.left) in
    subst (λ (o : Option Stamp). IsLeastOf (IsNativeWith c.args.self.now c.args.view.now c.args.disk Within) o) (sym c.new-best.ensures)
    (with_none c.args.self.now c.args.view.now c.args.disk Within (no_column lists c.args.block c.args.row))

pub best_in_cell-requires-clause-cell : goal.best_in_cell-requires-clause-cell
best_in_cell-requires-clause-cell c = rw c.columns.ensures.value
    (cell_within c.args.self.now.grid c.args.block c.args.placed.now.cell c.args.row c.loop-column.column c.requires.beside
    c.requires.low c.requires.high c.loop-column.auto.column c.loop-column-test.true).0

pub best_in_cell-requires-clause-beside : goal.best_in_cell-requires-clause-beside
best_in_cell-requires-clause-beside c = rw c.columns.ensures.value
    (cell_within c.args.self.now.grid c.args.block c.args.placed.now.cell c.args.row c.loop-column.column c.requires.beside
    c.requires.low c.requires.high c.loop-column.auto.column c.loop-column-test.true).1

pub loop-column-preserved : goal.loop-column-preserved
loop-column-preserved c = λ listed.
    let finder = c.args.self.now in
    let Found = IsNativeWith finder c.args.view.now c.args.disk in
    let column = c.loop-column.column in
    let most : c.args.block.right ≤ c.args.self.now.grid.columns = c.requires.beside.sides.most_columns in
    let same : c.args.self.now.lists.grid.columns ≡ c.args.self.now.grid.columns =
    ap (λ (g : GridData). g.columns) c.requires.subject.ready.lists in
    subst (λ (o : Option Stamp). IsLeastOf (Found (IsListedWithin finder.lists (columns_to c.args.block c.args.row (column + 1)))) o)
    (sym c.earlier-best.ensures)
    (column_more finder c.args.view.now c.args.disk c.args.block c.args.row column c.loop-column.best c.best_in_cell.result
    c.loop-column.auto.column (omega arith) (c.loop-column.invariant listed)
    (subst (λ (n : ℕ). IsLeastOf (Found (IsListed finder.lists (c.args.row * n + column))) c.best_in_cell.result)
    (c.columns.ensures.value ∙ sym same) (c.best_in_cell.ensures listed)))

pub returns : goal.returns
returns c = λ listed.
    let finder = c.args.self.now in
    let whole : c.loop-column.column ≡ c.args.block.right =
    (let most = c.loop-column.auto.column-end c.requires.beside.sides.columns in omega arith) in
    subst (λ (n : ℕ). IsLeastOf (IsNativeWith finder c.args.view.now c.args.disk
    (IsListedWithin finder.lists (columns_to c.args.block c.args.row n))) c.loop-column.best) whole (c.loop-column.invariant listed)

pub overflow_add-start : goal.overflow_add-start
overflow_add-start c =
    let sizes = c.columns.ensures.kept in
    omega (
      arith,
      c.requires.beside.sides.most_columns,
      start_small c.args.row c.columns.result (omega (arith, c.requires.beside.sides.most_rows)) (omega arith),
    )

pub overflow_mul-start : goal.overflow_mul-start
overflow_mul-start c =
    let sizes = c.columns.ensures.kept in
    omega (arith, start_small c.args.row c.columns.result (omega (arith, c.requires.beside.sides.most_rows)) (omega arith))
