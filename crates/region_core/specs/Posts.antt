-- Copies of what a region sends, for the regions that hear it.
use Rattle.std.specs.Prelude.{ℕ, List}
use Rattle.region_view.specs.declared.rows.Message.{Message}
use Rattle.local_run.specs.declared.home.Home.{Home}
use Rattle.local_run.specs.LocalRun.{IsHearable}
use Rattle.local_run.specs.Opening.{RegionData}

-- the same rules and grid, and the region of another number
abbrev pub home_at : Home → ℕ → Home
home_at h number = record { number = number; rules = h.rules; grid = h.grid }

-- the region of a number, of the same rules, grid and floor, may hear it from this one
abbrev pub IsPost : RegionData → ℕ → List Message → Type 0
IsPost region to ms = IsHearable (home_at region.home to) region.floor region.home.number ms
