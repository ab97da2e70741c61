use Rattle.std.proofs.Common.{◌≡◌, ℕ, ◌<◌, ◌≤◌, None}
use Rattle.std.specs.FinMap as map
use Rattle.region_core.specs.Live.{base_in}
use Rattle.region_core.proofs.region.standing.next_first_row.Given as goal

abbrev pub invariant-loop-disk : goal.invariant-loop-disk
invariant-loop-disk l =
    (i : ℕ) → l.from ≤ i → i < l.disk → map.get (base_in l.live) i ≡ None
