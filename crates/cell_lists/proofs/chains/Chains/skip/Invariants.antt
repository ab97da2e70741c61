-- The next disk is the first of the bucket from some number on, and no disk of the cell is below.
use Rattle.std.proofs.Common.{ℕ, ◌%◌, ◌<◌, ◌≤◌}
use Rattle.cell_lists.proofs.Firsts.{ascent}
use Rattle.cell_lists.specs.Chain.{IsFirst, IsCellOf}
use Rattle.cell_lists.proofs.chains.Chains.skip.Given as goal

abbrev pub invariant-loop-next : goal.invariant-loop-next
invariant-loop-next l =
    (below : ℕ) × (l.from ≤ below) × ((j : ℕ) → l.from ≤ j → j < below → ¬ IsCellOf l.self.cells l.cell j)
    × IsFirst l.self.cells l.self.buckets (l.cell % l.self.buckets) below l.next

abbrev pub decreases-loop-next : goal.decreases-loop-next
decreases-loop-next l = ascent l.next
