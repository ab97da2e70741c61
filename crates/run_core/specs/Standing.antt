-- Regions, and the state on which they stand.
use Rattle.std.specs.Prelude.{◌≡◌, ◌≤◌, ◌+◌, ℕ, zero, suc, List, [], ◌∷◌, ◌++◌, Option, None, length}
use Rattle.std.specs.Option.{option_or, option_to_list}
use Rattle.event_stamps.specs.declared.Stamp.{Stamp}
use Rattle.region_view.specs.declared.action.Placed.{Placed}
use Rattle.cell_sequence.specs.State.{CellStateData, IsCellState, later}
use Rattle.local_run.specs.Opening.{RegionData}
use Rattle.region_core.specs.FirstRows.{first_row}
use Rattle.run_floors.specs.Floors.{IsPast}
use Rattle.commit_horizon.specs.Horizon.{AllStand}

-- the row of a disk in the first of some regions that begins with one
abbrev pub row_among : List RegionData → ℕ → Option Placed
row_among [] i = None
row_among (region ∷ regions) i = option_or (first_row region i) (row_among regions i)

-- the rows of the first n disks
unfoldable pub rows_among : List RegionData → ℕ → List Placed
rows_among regions zero = []
rows_among regions (suc n) = rows_among regions n ++ option_to_list (row_among regions n)

-- a later state of the same run, with the rows with which the regions begin
abbrev pub seen_as : CellStateData → Option Stamp → Stamp → List RegionData → CellStateData
seen_as earlier last floor regions = later earlier (rows_among regions (length earlier.placed)) last floor

-- a state on which the regions stand, to which the run goes on from an earlier one; it has this floor, which comes after
-- its last action, and the last action since the earlier one has this stamp, if there is any
pub record GoesOnTo (earlier : CellStateData) (last : Option Stamp) (floor : Stamp) (regions : List RegionData)
    (state : CellStateData) : Type 0 where
  pub is : IsCellState state
  pub past : IsPast state.last state.floor
  pub stand : AllStand state regions
  pub is_later : state ≡ later earlier state.placed last floor
  pub count : length state.placed ≡ length earlier.placed

-- a state of the cell run on which the regions stand, with this floor and the rules and the grid of an earlier one
pub record ComesOf (earlier : CellStateData) (floor : Stamp) (regions : List RegionData) (state : CellStateData) :
    Type 0 where
  pub is : IsCellState state
  pub rules_are : state.rules ≡ earlier.rules
  pub grid_is : state.grid ≡ earlier.grid
  pub floor_is : state.floor ≡ floor
  pub stand : AllStand state regions

-- it holds of each state that comes so of an earlier one, whatever its floor is
abbrev pub OnEachFrom : CellStateData → List RegionData → (CellStateData → Type 0) → Type 0
OnEachFrom earlier regions P = (state : CellStateData) → ComesOf earlier state.floor regions state → P state

-- a burst that worked is of the run that it was of, and counts one burst more at most
abbrev pub WorksOnce : {B : Type 0} → (B → Option CellStateData) → (B → ℕ) → B → B → Type 0
WorksOnce of bursts old new = (of new ≡ of old) × (bursts new ≤ bursts old + 1)
