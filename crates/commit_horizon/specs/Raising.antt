-- When the floors of regions may be raised.
use Rattle.std.specs.Prelude.{◌≡◌, ℕ, List, Some, IfSome, slice_get}
use Rattle.event_stamps.specs.declared.Stamp.{Stamp}
use Rattle.event_stamps.specs.Order.{Before, end_stamp}
use Rattle.local_run.specs.Opening.{RegionData}
use Rattle.local_run.specs.Raising.{HasNoneWaitingBelow}

-- the stamp isn't before the floor nor after the end, and no message waits before it
pub record MayRise (to : Stamp) (region : RegionData) : Type 0 where
  pub not_lowered : ¬ Before to region.floor
  pub in_time : ¬ Before (end_stamp region.home.rules.end) to
  pub none_waiting : IfSome region.run (HasNoneWaitingBelow to)

-- each region's floor may be raised to the stamp
abbrev pub AllMayRise : Stamp → List RegionData → Type 0
AllMayRise to regions = (k : ℕ) (region : RegionData) → slice_get regions k ≡ Some region →
    MayRise to region
