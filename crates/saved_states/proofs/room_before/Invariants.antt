use Rattle.std.proofs.Common.{◌≡◌, ℕ, ◌≤◌, drop, None}
use Rattle.std.specs.FinMap as map
use Rattle.saved_states.specs.Steps.{view_before}
use Rattle.saved_states.proofs.room_before.Given as goal

abbrev pub invariant-loop-step : goal.invariant-loop-step
invariant-loop-step l = (i : ℕ) → l.room ≤ i → (map.get (view_before l.view (drop l.step-index l.steps)) i ≡ None →
    map.get (view_before l.view l.steps) i ≡ None) × (map.get l.view i ≡ None)
