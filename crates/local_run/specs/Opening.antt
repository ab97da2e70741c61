-- What contracts see of a region, and how it begins.
use Rattle.std.specs.Prelude.{◌≡◌, ◌≢◌, ◌⊎◌, ℕ, [], Option, Some, None, replicate, slice_get}
use Rattle.event_stamps.specs.declared.Stamp.{Stamp}
use Rattle.cell_grid.specs.Grid.{AreLinked}
use Rattle.region_view.specs.Views.{ViewData, IsViewOf}
use Rattle.local_run.specs.declared.home.Home.{Home}
use Rattle.local_run.specs.LocalRun.{Local}
use Rattle.cell_sequence.specs.State.{CellStateData}

-- what contracts see of a region: its home, its floor, and its local run unless it is spent
pub record RegionData : Type 0 where
  pub home : Home
  pub floor : Stamp
  pub run : Option Local

-- the same region, spent
abbrev pub spent : RegionData → RegionData
spent region = record { home = region.home; floor = region.floor; run = None }

-- the home of the region with this number, in a state
abbrev pub home_of : CellStateData → ℕ → Home
home_of state number = record { number = number; rules = state.rules; grid = state.grid }

-- an empty log over the view of the state, with nothing heard
pub record IsOpened (state : CellStateData) (number : ℕ) (region : RegionData) : Type 0 where
  pub home : region.home ≡ home_of state number
  pub floor : region.floor ≡ state.floor
  pub run : (base : ViewData) × IsViewOf state.grid number (slice_get state.placed) base
      × (region.run ≡ Some (record {
        floor = state.floor;
        base = base;
        heard = replicate state.grid.regions [];
        log = [];
      }))

-- nothing can be heard: one of the two has no run, or they don't agree in rules, grid and floor, or
-- they aren't linked
abbrev pub AreApart : RegionData → RegionData → Type 0
AreApart a b = (a.run ≡ None) ⊎ ((b.run ≡ None) ⊎ ((a.home.rules ≢ b.home.rules)
    ⊎ ((a.home.grid ≢ b.home.grid) ⊎ ((a.floor ≢ b.floor)
    ⊎ (¬ AreLinked a.home.grid b.home.number a.home.number)))))
