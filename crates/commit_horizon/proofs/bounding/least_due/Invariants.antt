use Rattle.std.proofs.Common.{◌≡◌, ℕ, ◌<◌, Some}
use Rattle.std.specs.Prelude.{slice_get}
use Rattle.local_run.specs.Opening.{RegionData}
use Rattle.local_run.specs.Keeping.{IsKept}
use Rattle.commit_horizon.specs.Bounds.{HoldsUpTo, OfFirst, IsUpToDue}
use Rattle.commit_horizon.proofs.bounding.least_due.Given as goal

abbrev pub invariant-loop-region : goal.invariant-loop-region
invariant-loop-region l = record {
  due : HoldsUpTo (OfFirst IsUpToDue l.regions l.region-index) l.least;
  kept : (k : ℕ) (region : RegionData) → k < l.region-index → slice_get l.regions k ≡ Some region →
      IsKept region;
}
