use Rattle.std.proofs.Common.{◌≡◌, take}
use Rattle.region_messages.proofs.count_same.Given as goal

abbrev pub invariant-loop-m : goal.invariant-loop-m
invariant-loop-m l = (l.same ≡ l.m-index) × (take l.same l.a ≡ take l.same l.b)
