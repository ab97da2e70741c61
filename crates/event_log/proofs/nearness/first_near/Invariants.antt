use Rattle.std.proofs.Common.{ℕ, ◌<◌, ◌≤◌, slice_get}
use Rattle.std.specs.Prelude.{IfSome}
use Rattle.event_log.specs.Nearness.{IsFarHead}
use Rattle.event_log.proofs.nearness.first_near.Given as goal

abbrev pub invariant-loop-i : goal.invariant-loop-i
invariant-loop-i l = (k : ℕ) → k < l.i → l.from ≤ k → IfSome (slice_get l.heads k) (IsFarHead l.grid l.rows l.narrow)
