use Rattle.std.proofs.Common.{map, take}
use Rattle.event_log.specs.Logged.{entries_in}
use Rattle.commit_horizon.specs.Cutting.{SomeHasStamp, IsLatest}
use Rattle.commit_horizon.proofs.cutting.last_of_all.Given as goal

abbrev pub invariant-loop-log : goal.invariant-loop-log
invariant-loop-log l = IsLatest (SomeHasStamp (map entries_in (take l.log-index l.logs))) l.last
