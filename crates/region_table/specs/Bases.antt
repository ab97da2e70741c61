-- The regions that may take the place of a region, and how many entries they count as having.
use Rattle.std.specs.Prelude.{◌≡◌, ◌≢◌, ◌⊎◌, ℕ, ◌+◌, List, length, slice_get, Option, Some, None}
use Rattle.local_run.specs.declared.entry.TheConstants.{MAX_ENTRIES}
use Rattle.local_run.specs.LocalRun.{Local}
use Rattle.local_run.specs.Opening.{RegionData, spent}
use Rattle.local_run.specs.RunOn.{BeginsAs}

-- a spent region with this number
pub record IsSpent (number : ℕ) (region : RegionData) : Type 0 where
  pub run : region.run ≡ None
  pub number_is : region.home.number ≡ number

-- what may take the place of the first
abbrev pub MayReplace : RegionData → RegionData → Type 0
MayReplace first region = BeginsAs first region ⊎ IsSpent first.home.number region

-- the same for the region that a slot was opened with
abbrev pub MayLieIn : List RegionData → ℕ → RegionData → Type 0
MayLieIn opened k region = (first : RegionData) × (slice_get opened k ≡ Some first) × MayReplace first region

-- the number of entries of a local run; without one, more than any log has
abbrev pub count_in : Option Local → ℕ
count_in None = MAX_ENTRIES + 1
count_in (Some run) = length run.log

-- the number of entries of the log; a spent region counts as having more than any log has
abbrev pub count_of : RegionData → ℕ
count_of region = count_in region.run

-- it has as many as the region that the slot was opened with
abbrev pub CountsAsOpened : List RegionData → ℕ → RegionData → Type 0
CountsAsOpened opened k region = (first : RegionData) → slice_get opened k ≡ Some first → count_of region ≡ count_of first

-- the region at each place may replace the first one there
pub record AreReplaced (opened regions : List RegionData) : Type 0 where
  pub count : length regions ≡ length opened
  pub each : (k : ℕ) (region : RegionData) → slice_get regions k ≡ Some region → MayLieIn opened k region

-- it has the base that it had, or is spent
abbrev pub StaysOrSpent : RegionData → RegionData → Type 0
StaysOrSpent old new = BeginsAs old new ⊎ (new ≡ spent old)

-- none of them is spent
abbrev pub AreAlive : List RegionData → Type 0
AreAlive regions = (k : ℕ) (region : RegionData) → slice_get regions k ≡ Some region → region.run ≢ None
