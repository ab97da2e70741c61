use Rattle.std.proofs.Common.{◌≡◌, ℕ, ◌+◌}
use Rattle.local_run.proofs.Running.{IsUnderWayBefore}
use Rattle.region_core.proofs.region.Region.run_before.Given as goal

abbrev pub invariant-loop-left : goal.invariant-loop-left
invariant-loop-left l = (made : ℕ) × (made + l.left ≡ l.fn.steps)
    × IsUnderWayBefore l.fn.bound made l.fn.self l.answer l.self

abbrev pub decreases-loop-left : goal.decreases-loop-left
decreases-loop-left l = l.left
