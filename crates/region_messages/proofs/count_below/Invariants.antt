use Rattle.std.proofs.Common.{◌≤◌, length}
use Rattle.region_messages.specs.Trails.{message_key}
use Rattle.region_messages.proofs.Sought.{NoneFrom}
use Rattle.region_messages.proofs.count_below.Given as goal

abbrev pub invariant-loop-count : goal.invariant-loop-count
invariant-loop-count l =
    (l.count ≤ length l.messages) × NoneFrom message_key l.fn.at l.messages l.count

abbrev pub decreases-loop-count : goal.decreases-loop-count
decreases-loop-count l = l.count
