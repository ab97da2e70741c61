use Rattle.commit_horizon.specs.Bounds.{HoldsUpTo, OfFirst, AllAgreeWith}
use Rattle.commit_horizon.proofs.bounding.first_apart_of_all.Given as goal

abbrev pub invariant-loop-sender : goal.invariant-loop-sender
invariant-loop-sender l = HoldsUpTo (OfFirst (AllAgreeWith l.regions) l.regions l.sender-index) l.first
