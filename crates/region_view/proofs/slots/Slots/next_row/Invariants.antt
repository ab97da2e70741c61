-- No disk has a row in the slots that were passed.
use Rattle.std.proofs.Common.{ℕ, ◌≡◌, ◌<◌, ◌≤◌, None}
use Rattle.region_view.specs.Slots.{slot_at}
use Rattle.region_view.proofs.slots.Slots.next_row.Given as goal

abbrev pub invariant-loop-i : goal.invariant-loop-i
invariant-loop-i l = (j : ℕ) → l.from ≤ j → j < l.i → slot_at l.self j ≡ None
