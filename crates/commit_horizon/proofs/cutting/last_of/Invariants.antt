use Rattle.std.proofs.Common.{◌≡◌, ℕ, ◌≤◌, None}
use Rattle.event_log.specs.Logged.{native_at}
use Rattle.commit_horizon.proofs.cutting.last_of.Given as goal

abbrev pub invariant-entries : goal.invariant-entries
invariant-entries l = (k : ℕ) → l.place ≤ k → native_at l.log k ≡ None

abbrev pub decreases-entries : goal.decreases-entries
decreases-entries l = l.place
