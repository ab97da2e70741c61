use Rattle.std.proofs.Common.{◌≡◌, ℕ, ◌<◌, ◌≤◌, false, slice_get, Some, None}
use Rattle.std.specs.FinMap as map
use Rattle.event_log.specs.Logged.{setters_in}
use Rattle.event_log.proofs.processed.EventLog.first_room.Given as goal

abbrev pub invariant-loop-i : goal.invariant-loop-i
invariant-loop-i l = (disk : ℕ) → l.room ≤ disk →
    ((k : ℕ) → k < l.i → slice_get (setters_in disk l.self) k ≡ Some false) × (map.get l.newest disk ≡ None)
