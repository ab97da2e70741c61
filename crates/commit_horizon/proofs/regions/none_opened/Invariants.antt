use Rattle.std.proofs.Common.{◌≡◌, length}
use Rattle.commit_horizon.proofs.regions.none_opened.Given as goal

abbrev pub invariant-loop : goal.invariant-loop
invariant-loop l = length l.places.items ≡ l.counter
