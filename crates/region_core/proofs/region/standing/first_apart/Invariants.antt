use Rattle.std.proofs.Common.{ℕ, ◌<◌, slice_get}
use Rattle.region_core.specs.Live.{base_in}
use Rattle.local_run.specs.Standing.{IsSeenAt}
use Rattle.region_core.proofs.region.standing.first_apart.Given as goal

abbrev pub invariant-loop-i : goal.invariant-loop-i
invariant-loop-i l = (j : ℕ) → j < l.i → IsSeenAt l.grid l.number (slice_get l.placed) (base_in l.live) j
