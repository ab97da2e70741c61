-- One more row of the block.
use Rattle.std.proofs.Common.{◌≡◌, inl, inr, ℕ, ◌+◌, arith, sym, subst}
use Rattle.cell_lists.specs.Firsts.{IsFirstOf}
use Rattle.cell_lists.specs.Nearby.{IsListedWithin, columns_to}
use Rattle.cell_lists.proofs.Firsts.{first_of_either}
use Rattle.cell_lists.proofs.Blocks.{rows_to, split_row, join_row}
use Rattle.cell_lists.proofs.lists.Lists.first_within.Goals as goal

pub loop-row-preserved : goal.loop-row-preserved
loop-row-preserved c =
    let lists = c.args.self.now in
    let block = c.args.block in
    let row = c.loop-row.row in
    subst (IsFirstOf (IsListedWithin lists (rows_to block (row + 1))) c.args.from) (sym c.lesser-first.ensures)
    (first_of_either (IsListedWithin lists (rows_to block row)) (IsListedWithin lists (columns_to block row block.right))
    (IsListedWithin lists (rows_to block (row + 1))) c.args.from c.loop-row.first c.first_in_row.result
    (λ i x. join_row lists block row i c.loop-row.auto.row (inl x)) (λ i x. join_row lists block row i c.loop-row.auto.row (inr x))
    (split_row lists block row) c.loop-row.invariant c.first_in_row.ensures)

pub returns : goal.returns
returns c =
    let most = c.loop-row.auto.row-end c.requires.rows in
    let whole : c.loop-row.row ≡ c.args.block.high = omega arith in
    subst (λ (n : ℕ). IsFirstOf (IsListedWithin c.args.self.now (rows_to c.args.block n)) c.args.from c.loop-row.first) whole c.loop-row.invariant
