-- What a region keeps when it is run on.
use Rattle.std.specs.Prelude.{◌≡◌, ◌≢◌, ℕ, List, Option, Some, None, slice_get, option_map}
use Rattle.region_view.specs.Views.{ViewData}
use Rattle.local_run.specs.LocalRun.{Local}
use Rattle.local_run.specs.Opening.{RegionData}

-- the view that its run begins with; none if it is spent
abbrev pub base_of : RegionData → Option ViewData
base_of region = option_map (λ (run : Local). run.base) region.run

-- its home, its floor and its first view are as they were
pub record BeginsAs (old new : RegionData) : Type 0 where
  pub home : new.home ≡ old.home
  pub floor : new.floor ≡ old.floor
  pub base : base_of new ≡ base_of old

-- that is so, and it isn't spent: it is the same region, which may have gone on or back, or heard others
pub record IsRunOn (old new : RegionData) : Type 0 where
  pub alive : new.run ≢ None
  pub begins : BeginsAs old new

-- the same for the regions at each place
abbrev pub AreRunOn : List RegionData → List RegionData → Type 0
AreRunOn given worked = (k : ℕ) (old new : RegionData) → slice_get given k ≡ Some old →
    slice_get worked k ≡ Some new → IsRunOn old new
