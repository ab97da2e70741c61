-- The regions that a burst is given.
use Rattle.std.specs.Prelude.{◌≡◌, ◌≢◌, ℕ, List, length, slice_get, Some, None}
use Rattle.fixed_motion.specs.declared.rules.Rules.{Rules}
use Rattle.event_stamps.specs.declared.Stamp.{Stamp}
use Rattle.cell_grid.specs.Grid.{GridData}
use Rattle.local_run.specs.Opening.{RegionData}

-- it isn't spent, and it is the region of this number, with these rules, this grid and this floor
pub record IsAtPlace (rules : Rules) (grid : GridData) (floor : Stamp) (k : ℕ) (region : RegionData) :
    Type 0 where
  pub alive : region.run ≢ None
  pub home : region.home ≡ record { number = k; rules = rules; grid = grid }
  pub floor_is : region.floor ≡ floor

-- all regions of one grid, each at the place of its number, from one floor on, and none is spent
pub record AreTogether (regions : List RegionData) : Type 0 where
  pub rules : Rules
  pub grid : GridData
  pub floor : Stamp
  pub count : length regions ≡ grid.regions
  pub each : (k : ℕ) (region : RegionData) → slice_get regions k ≡ Some region →
      IsAtPlace rules grid floor k region
