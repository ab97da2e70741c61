use Rattle.std.proofs.Common.{◌≡◌, ℕ, ◌≤◌, take, Option}
use Rattle.region_view.specs.declared.action.Placed.{Placed}
use Rattle.region_view.specs.Setting.{get_over}
use Rattle.saved_states.proofs.room_set.Given as goal

abbrev pub invariant-loop-row : goal.invariant-loop-row
invariant-loop-row l = (i : ℕ) → l.room ≤ i → (before : Option Placed) →
    get_over (take l.row-index l.rows) i before ≡ before
