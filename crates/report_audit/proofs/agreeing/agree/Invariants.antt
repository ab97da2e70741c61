use Rattle.std.proofs.Common.{◌≡◌, ◌-◌, ◌≤◌, length, take}
use Rattle.std.specs.Io.KnownBytes.{Consumes}
use Rattle.report_audit.specs.Parting.{all_left}
use Rattle.report_audit.proofs.agreeing.agree.Given as goal

abbrev pub invariant-loop-at : goal.invariant-loop-at
invariant-loop-at g l = let C = g.C.Source in record {
  within : l.at ≤ length l.piece;
  took : Consumes (all_left l.fn.ahead (C.left l.fn.claimed)) (all_left l.ahead (C.left l.claimed)) (take l.at l.piece);
  counts : C.faults l.claimed ≡ C.faults l.fn.claimed;
  lasts : C.lasting l.claimed ≡ C.lasting l.fn.claimed;
}

abbrev pub decreases-loop-at : goal.decreases-loop-at
decreases-loop-at g l = length l.piece - l.at
