use Rattle.std.proofs.Common.{◌≡◌, ℕ, ◌<◌, Some}
use Rattle.std.specs.Prelude.{slice_get}
use Rattle.local_run.specs.Opening.{RegionData}
use Rattle.local_run.specs.Keeping.{IsKept}
use Rattle.run_core.proofs.advance_untold.none_is_spent.Given as goal

abbrev pub invariant-loop-region : goal.invariant-loop-region
invariant-loop-region l = (k : ℕ) (region : RegionData) → k < l.region-index →
    slice_get l.regions k ≡ Some region → IsKept region
