use Rattle.std.proofs.Common.{◌≡◌, ℕ, ◌<◌, false, slice_get, Some}
use Rattle.event_log.specs.Logged.{setters_in}
use Rattle.event_log.proofs.processed.EventLog.first_row.Given as goal

abbrev pub invariant-loop-i : goal.invariant-loop-i
invariant-loop-i l = (k : ℕ) → k < l.i → slice_get (setters_in l.disk l.self) k ≡ Some false
