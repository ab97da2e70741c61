use Rattle.std.proofs.Common.{◌≡◌, ◌≢◌, ◌<◌, ℕ, Some, None, slice_get}
use Rattle.local_run.specs.Opening.{RegionData}
use Rattle.region_table.proofs.workers.has_spent.Given as goal

abbrev pub invariant-loop-region : goal.invariant-loop-region
invariant-loop-region l = (k : ℕ) (region : RegionData) → k < l.region-index →
    slice_get l.regions k ≡ Some region → region.run ≢ None
