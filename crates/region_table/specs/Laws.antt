-- A region found in a table stands on the states on which the regions stood with which it was opened.
use Rattle.std.specs.Prelude.{◌≡◌, ◌≢◌, ℕ, ◌<◌, List, length, slice_get, slice_index, Some, None}
use mathlib.Core.Option.{some}
use lib.ListN.{get_elem?}
use Rattle.atomic_table.specs.Table.{State}
use Rattle.cell_sequence.specs.State.{CellStateData}
use Rattle.local_run.specs.Opening.{RegionData}
use Rattle.local_run.specs.Standing.{StandsOn}
use Rattle.region_table.specs.declared.rule.TableView.{TableView}
use Rattle.region_table.specs.declared.take_out.TakeOut.TheVariants.{Out}
use Rattle.region_table.specs.Rule.{Content, IsHomeWord, Kept}
use Rattle.region_table.specs.Tables.{SeatData, TakesOut}

-- the regions of an opening stand on a state, each by its place
abbrev pub HaveStood : CellStateData → List RegionData → Type 0
HaveStood state opened = (j : ℕ) (first : RegionData) → slice_get opened j ≡ Some first → StandsOn state j first

-- it stands on the state by its number, unless it is spent
abbrev pub StillStands : CellStateData → ℕ → RegionData → Type 0
StillStands state k region = region.run ≢ None → StandsOn state k region

-- whatever the seats did, a region that is at home in a slot still stands
abbrev pub HomesStillStand : Type 0
HomesStillStand = (state : CellStateData) (opened : List RegionData) (s : State Content TableView) → HaveStood state opened → Kept opened s →
    (k : ℕ) (region : RegionData) → k < length opened → IsHomeWord (slice_index s.words k) → get_elem? s.homes k ≡ some (some (Some region)) →
    StillStands state k region

-- and so does a region that a seat takes out
abbrev pub TakenStillStand : Type 0
TakenStillStand = (state : CellStateData) (old new : SeatData) (k : ℕ) (region : RegionData) → HaveStood state old.view.opened →
    TakesOut old k (Out region) new → StillStands state k region
