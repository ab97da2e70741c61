use Rattle.std.proofs.Common.{◌-◌, length}
use Rattle.region_parts.proofs.Passed.{ArePassed}
use Rattle.region_parts.proofs.aside.first_in_way.Given as goal

abbrev pub invariant-loop-i : goal.invariant-loop-i
invariant-loop-i l = ArePassed l.home l.rows l.log l.kept l.next

abbrev pub decreases-loop-i : goal.decreases-loop-i
decreases-loop-i l = length l.log - l.next
