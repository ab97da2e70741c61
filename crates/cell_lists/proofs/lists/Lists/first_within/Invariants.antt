-- The first of the rows so far.
use Rattle.cell_lists.specs.Firsts.{IsFirstOf}
use Rattle.cell_lists.specs.Nearby.{IsListedWithin}
use Rattle.cell_lists.proofs.Blocks.{rows_to}
use Rattle.cell_lists.proofs.lists.Lists.first_within.Given as goal

abbrev pub invariant-loop-row : goal.invariant-loop-row
invariant-loop-row l = IsFirstOf (IsListedWithin l.self (rows_to l.block l.row)) l.from l.first
