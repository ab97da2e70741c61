-- The first of the columns so far.
use Rattle.cell_lists.specs.Firsts.{IsFirstOf}
use Rattle.cell_lists.specs.Nearby.{IsListedWithin, columns_to}
use Rattle.cell_lists.proofs.lists.Lists.first_in_row.Given as goal

abbrev pub invariant-loop-column : goal.invariant-loop-column
invariant-loop-column l = IsFirstOf (IsListedWithin l.self (columns_to l.fn.block l.row l.column)) l.from l.first
