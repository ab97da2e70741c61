-- The list goes on with all disks from a number on, the first of which is the next one.
use Rattle.std.proofs.Common.{ℕ}
use Rattle.cell_lists.specs.Firsts.{IsFirstOf}
use Rattle.cell_lists.proofs.Firsts.{ascent, GoesOn}
use Rattle.cell_lists.specs.Nearby.{IsListedWithin}
use Rattle.cell_lists.proofs.lists.Lists.near.Given as goal

abbrev pub invariant-loop-next : goal.invariant-loop-next
invariant-loop-next l = (from : ℕ) × IsFirstOf (IsListedWithin l.self l.block) from l.next × GoesOn (IsListedWithin l.self l.block) l.disks.items from

abbrev pub decreases-loop-next : goal.decreases-loop-next
decreases-loop-next l = ascent l.next
