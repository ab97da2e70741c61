-- The rows with which a region's run begins.
use Rattle.std.specs.Prelude.{ℕ, Option, Some, None}
use Rattle.std.specs.FinMap as map
use Rattle.region_view.specs.declared.action.Placed.{Placed}
use Rattle.region_view.specs.Views.{ViewData}
use Rattle.local_run.specs.Opening.{RegionData}
use Rattle.local_run.specs.RunOn.{base_of}

-- the row of a disk in a view, if there is a view
abbrev pub row_in : Option ViewData → ℕ → Option Placed
row_in None i = None
row_in (Some view) i = map.get view i

-- the row of a disk in the view that its run begins with; none if it is spent
abbrev pub first_row : RegionData → ℕ → Option Placed
first_row region i = row_in (base_of region) i
