-- The commit horizon of the regions of a cell state: what they did before it is final.
use Rattle.std.specs.Prelude.{◌≡◌, ◌⊎◌, ℕ, List, [], ◌∷◌, ⊤, Option, Some, None, slice_get}
use Rattle.std.specs.FinMap as map
use Rattle.event_stamps.specs.declared.Stamp.{Stamp}
use Rattle.event_stamps.specs.Order.{Before, first_stamp, end_stamp}
use Rattle.cell_grid.specs.Grid.{IsRegion, AreLinked}
use Rattle.region_view.specs.declared.action.Action.{Action}
use Rattle.region_view.specs.Acting.{stamp_of}
use Rattle.region_messages.specs.Trails.{IsAmong, AgreeBelow}
use Rattle.cell_sequence.specs.State.{CellStateData}
use Rattle.cell_sequence.specs.Laws.{Sees}
use Rattle.local_run.specs.declared.entry.Entry.TheVariants.{Native}
use Rattle.local_run.specs.LocalRun.{Local, now_of, sent_to, trail_of, IsOffered, IsRight}
use Rattle.local_run.specs.Opening.{RegionData, home_of}
use Rattle.local_run.specs.Keeping.{IsKept}
pub use Rattle.run_floors.specs.Regions.{AllStand}

-- ---- the regions of a state
-- the local run of each region, by its number
abbrev pub LocalRuns : Type 0
LocalRuns = ℕ → Local

-- a right local run from the state's floor on, which begins in the region's view of the state
pub record IsStanding (state : CellStateData) (k : ℕ) (run : Local) : Type 0 where
  pub floor : run.floor ≡ state.floor
  pub base : Sees state k run.base
  pub right : IsRight (home_of state k) run

-- the local run of each region stands on the state
abbrev pub AreStanding : CellStateData → LocalRuns → Type 0
AreStanding state runs = (k : ℕ) → IsRegion state.grid k → IsStanding state k (runs k)

-- ---- the horizon
-- a stamp that isn't before the floor nor after the end, nor after both the floor and what a region has due, nor after
-- the first disagreement of what one region sent and another heard from it
pub record IsBound (state : CellStateData) (runs : LocalRuns) (h : Stamp) : Type 0 where
  pub end : ¬ Before (end_stamp state.rules.end) h
  pub floor : ¬ Before h state.floor
  pub due : (k : ℕ) (s : Stamp) → IsRegion state.grid k →
      IsOffered (home_of state k) (now_of (runs k)) s →
      (¬ Before s h) ⊎ (¬ Before state.floor h)
  pub agree : (k q : ℕ) → IsRegion state.grid k → IsRegion state.grid q → AreLinked state.grid k q →
      AgreeBelow h (sent_to state.grid q (runs k).base (runs k).log) (trail_of (runs q).heard k)

-- the horizon: no bound is after it
pub record IsHorizon (state : CellStateData) (runs : LocalRuns) (h : Stamp) : Type 0 where
  pub bound : IsBound state runs h
  pub greatest : (t : Stamp) → IsBound state runs t → ¬ Before h t

-- ---- merged logs
-- stamps rise strictly
abbrev pub ActionStampsRise : List Action → Type 0
ActionStampsRise [] = ⊤
ActionStampsRise (x ∷ xs) =
    ((y : Action) → IsAmong y xs → Before (stamp_of x) (stamp_of y)) × ActionStampsRise xs

-- a region ran it, before a stamp
pub record IsDone (state : CellStateData) (runs : LocalRuns) (h : Stamp) (x : Action) : Type 0 where
  pub home : ℕ
  pub within : IsRegion state.grid home
  pub among : IsAmong (Native x) (runs home).log
  pub before : Before (stamp_of x) h

-- what the regions ran before a stamp, in the order of stamps
pub record IsMerged (state : CellStateData) (runs : LocalRuns) (h : Stamp) (xs : List Action) : Type 0 where
  pub rise : ActionStampsRise xs
  pub are : (x : Action) → IsAmong x xs → IsDone state runs h x
  pub all : (x : Action) → IsDone state runs h x → IsAmong x xs

-- ---- lists of regions
-- a run of which nothing is known, for a number without a region
abbrev pub no_run : Local
no_run = record { floor = first_stamp; base = map.empty; heard = []; log = [] }

-- the local run; if there is none, the one of which nothing is known
abbrev pub local_run_in : Option Local → Local
local_run_in None = no_run
local_run_in (Some run) = run

-- the local run of a region; if there is no region, or it is spent, the one of which nothing is known
abbrev pub run_of : Option RegionData → Local
run_of None = no_run
run_of (Some region) = local_run_in region.run

-- the local runs of some regions, by their places
unfoldable pub runs_of : List RegionData → LocalRuns
runs_of regions k = run_of (slice_get regions k)

-- what each region keeps
abbrev pub AllKept : List RegionData → Type 0
AllKept regions = (k : ℕ) (region : RegionData) → slice_get regions k ≡ Some region → IsKept region
