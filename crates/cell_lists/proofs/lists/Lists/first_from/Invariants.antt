-- The walk is at the first disk from a number on that is not past the one that is asked for.
use Rattle.std.proofs.Common.{ℕ, ◌≤◌}
use Rattle.cell_lists.proofs.Firsts.{ascent}
use Rattle.cell_lists.specs.Listing.{IsFirstIn}
use Rattle.cell_lists.proofs.lists.Lists.first_from.Given as goal

abbrev pub invariant-loop-next : goal.invariant-loop-next
invariant-loop-next l = (start : ℕ) × (start ≤ l.from) × IsFirstIn l.self l.cell start l.next

abbrev pub decreases-loop-next : goal.decreases-loop-next
decreases-loop-next l = ascent l.next
