use Rattle.std.proofs.Common.{◌-◌, ◌≤◌, length}
use Rattle.commit_horizon.proofs.cutting.fit.Given as goal

abbrev pub invariant-logs : goal.invariant-logs
invariant-logs l = length l.logs.items ≤ l.count

abbrev pub decreases-logs : goal.decreases-logs
decreases-logs l = l.count - length l.logs.items
