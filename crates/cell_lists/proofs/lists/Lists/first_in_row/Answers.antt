-- One more cell of the row.
use Rattle.std.proofs.Common.{◌≡◌, ℕ, ◌+◌, ◌*◌, ◌≤◌, ◌<◌, arith, sym, subst, ap, ◌∙◌}
use Rattle.cell_lists.specs.Firsts.{IsFirstOf}
use Rattle.cell_lists.specs.Listing.{ListsData, IsListed}
use Rattle.cell_lists.specs.Nearby.{IsListedWithin, columns_to}
use Rattle.cell_lists.proofs.Firsts.{first_of_either}
use Rattle.cell_lists.proofs.Blocks.{split_column, wider_column, in_last_column}
use Rattle.cell_lists.proofs.lists.Lists.first_in_row.Goals as goal

pub loop-column-preserved : goal.loop-column-preserved
loop-column-preserved c =
    let lists = c.args.self.now in
    let block = c.args.block in
    let column = c.loop-column.column in
    let most : block.right ≤ lists.grid.columns = c.requires.block.most_columns in
    let inside : column < block.right = c.loop-column-test.true in
    let same : c.columns.result ≡ lists.grid.columns =
    c.columns.ensures.value ∙ ap (λ (l : ListsData). l.grid.columns) c.self.view_is in
    subst (IsFirstOf (IsListedWithin lists (columns_to block c.args.row (column + 1))) c.args.from) (sym c.lesser-first.ensures)
    (first_of_either (IsListedWithin lists (columns_to block c.args.row column)) (IsListed lists (c.args.row * lists.grid.columns + column))
    (IsListedWithin lists (columns_to block c.args.row (column + 1))) c.args.from c.loop-column.first c.first_from.result
    (wider_column lists block c.args.row column)
    (λ i here. in_last_column lists block c.args.row column i c.loop-column.auto.column (omega arith) here)
    (split_column lists block c.args.row column) c.loop-column.invariant
    (subst (λ (n : ℕ). IsFirstOf (IsListed lists (c.args.row * n + column)) c.args.from c.first_from.result) same c.first_from.ensures))

pub returns : goal.returns
returns c =
    let most = c.loop-column.auto.column-end c.requires.block.columns in
    let whole : c.loop-column.column ≡ c.args.block.right = omega arith in
    subst (λ (n : ℕ). IsFirstOf (IsListedWithin c.args.self.now (columns_to c.args.block c.args.row n)) c.args.from c.loop-column.first) whole
    c.loop-column.invariant
