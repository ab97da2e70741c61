use Rattle.std.proofs.Common.{◌≤◌, length}
use Rattle.event_log.proofs.Laid.{head_stamp}
use Rattle.region_messages.proofs.Sought.{NoneFrom}
use Rattle.event_log.proofs.heads.count_earlier.Given as goal

abbrev pub invariant-loop-count : goal.invariant-loop-count
invariant-loop-count l =
    (l.count ≤ length l.heads) × NoneFrom head_stamp l.fn.at l.heads l.count

abbrev pub decreases-loop-count : goal.decreases-loop-count
decreases-loop-count l = l.count
