use Rattle.std.proofs.Common.{◌≡◌, [], replicate}
use Rattle.region_parts.proofs.trails.empty_trails.Given as goal

abbrev pub invariant-loop : goal.invariant-loop
invariant-loop l = l.trails.items ≡ replicate l.counter []
