use Rattle.event_stamps.specs.Least.{IsLeastOf}
use Rattle.cell_sequence.specs.Run.{IsStateCandidate}
use Rattle.cell_sequence.proofs.Found.{IsBelow}
use Rattle.cell_sequence.proofs.search.next.Given as goal

abbrev pub invariant-loop-i : goal.invariant-loop-i
invariant-loop-i l = IsLeastOf (IsBelow (IsStateCandidate l.rules l.grid l.placed) l.i) l.first
