use Rattle.commit_horizon.specs.Bounds.{HoldsUpTo, OfFirst, AgreeOn}
use Rattle.commit_horizon.proofs.bounding.first_apart_from.Given as goal

abbrev pub invariant-loop-hearer : goal.invariant-loop-hearer
invariant-loop-hearer l = HoldsUpTo (OfFirst (AgreeOn l.sender) l.regions l.hearer-index) l.first
