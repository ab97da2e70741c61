use Rattle.std.proofs.Common.{◌≡◌, ℕ, ◌<◌, ◌++◌, map, take, drop, Some}
use Rattle.std.specs.Prelude.{slice_get}
use Rattle.local_run.specs.Opening.{RegionData}
use Rattle.local_run.specs.Keeping.{IsKept}
use Rattle.run_core.specs.Taking.{at_floor}
use Rattle.run_core.proofs.one_event.rewind_all.Given as goal

abbrev pub invariant-loop-region : goal.invariant-loop-region
invariant-loop-region l = record {
  rewound : l.region-items ≡ map at_floor (take l.region-index l.fn.regions) ++ drop l.region-index l.fn.regions;
  kept : (k : ℕ) (region : RegionData) → k < l.region-index → slice_get l.fn.regions k ≡ Some region →
      IsKept region;
}
