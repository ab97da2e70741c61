use Rattle.std.proofs.Common.{◌≡◌, ◌++◌, map, Ok}
use Rattle.commit_horizon.proofs.regions.all_or_none.Given as goal

abbrev pub invariant-loop-region : goal.invariant-loop-region
invariant-loop-region l = map Ok l.regions.items ++ l.region-iterator.rest.items ≡ l.fn.opened.items
