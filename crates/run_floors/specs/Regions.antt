-- Regions that stand on the states of one cell run.
use Rattle.std.specs.Prelude.{◌≡◌, ℕ, List, Option, Some, length, slice_get}
use Rattle.cell_sequence.specs.State.{CellStateData}
use Rattle.local_run.specs.Opening.{RegionData}
use Rattle.local_run.specs.Standing.{StandsOn}
use Rattle.run_floors.specs.Floors.{IsAtFloor, AreOfOneRun}

-- as many regions as the grid has, and each stands on the state with its place as its number
pub record AllStand (state : CellStateData) (regions : List RegionData) : Type 0 where
  pub count : length regions ≡ state.grid.regions
  pub each : (k : ℕ) (region : RegionData) → slice_get regions k ≡ Some region →
      StandsOn state k region

-- the region stands, by its number, on a state of the run that begins with this one
pub record StandsInRun (opening : CellStateData) (region : RegionData) : Type 0 where
  pub state : CellStateData
  pub at : IsAtFloor state
  pub one : AreOfOneRun opening state
  pub stands : StandsOn state region.home.number region

-- all regions stand on one state of the run that begins with this one
pub record StandOfRun (opening : CellStateData) (regions : List RegionData) : Type 0 where
  pub state : CellStateData
  pub at : IsAtFloor state
  pub one : AreOfOneRun opening state
  pub stand : AllStand state regions

-- the same, if a run is given
abbrev pub StandIfOf : Option CellStateData → List RegionData → Type 0
StandIfOf given regions = (opening : CellStateData) → given ≡ Some opening → StandOfRun opening regions
