use Rattle.event_rules.specs.Run.{IsCandidate}
use Rattle.event_stamps.specs.Least.{IsLeastOf}
use Rattle.all_pairs.proofs.Least.{IsBelow}
use Rattle.all_pairs.proofs.search.next.Given as goal

abbrev pub invariant-loop-i : goal.invariant-loop-i
invariant-loop-i l = IsLeastOf (IsBelow (IsCandidate l.rules l.disks) l.i) l.first
