-- What regions have due, and how the others take in one region's step.
use Rattle.std.specs.Prelude.{◌≡◌, ◌≢◌, ◌⊎◌, ℕ, ◌<◌, List, Some, length, slice_get}
use Rattle.event_stamps.specs.declared.Stamp.{Stamp}
use Rattle.event_stamps.specs.Order.{Before}
use Rattle.cell_grid.specs.Grid.{GridData, IsRegion, AreLinked}
use Rattle.cell_sequence.specs.State.{CellStateData, IsCellState}
use Rattle.local_run.specs.declared.answers.Step.{Step}
use Rattle.local_run.specs.declared.answers.Step.TheVariants.{Ran}
use Rattle.local_run.specs.LocalRun.{Local}
use Rattle.local_run.specs.Opening.{RegionData}
use Rattle.local_run.specs.Hearing.{rewound}
use Rattle.local_run.specs.Keeping.{IsDueIn}
use Rattle.commit_horizon.specs.Horizon.{LocalRuns, runs_of, AreStanding, AllStand}
use Rattle.run_core.specs.declared.answers.Advance.{Advance}
use Rattle.run_core.specs.Advances.{SecondPart}
use Rattle.run_core.specs.Hearings.{Call, Hearings, IsPass}
use Rattle.run_core.specs.Second.{rewound_to, TakesIn, AllTakeIn}
use Rattle.run_core.specs.Turns.{Turns}

-- ---- what is due
-- of what the first n regions have due, the one at a place has the least, and none before it has the same
pub record IsFirstDue (regions : List RegionData) (n home : ℕ) (stamp : Stamp) : Type 0 where
  pub dues : ℕ → Stamp
  pub due : (k : ℕ) (region : RegionData) → k < n → slice_get regions k ≡ Some region →
      IsDueIn region (dues k)
  pub within : home < n
  pub has : dues home ≡ stamp
  pub least : (k : ℕ) → k < n → ¬ Before (dues k) stamp
  pub first : (k : ℕ) → k < home → Before stamp (dues k)

-- the same for all regions
abbrev pub IsNextHome : List RegionData → ℕ → Type 0
IsNextHome regions home = (stamp : Stamp) × IsFirstDue regions (length regions) home stamp

-- ---- what is taken in
-- region q took in what region k sent, or isn't linked with it and is as it was
abbrev pub TookIn : CellStateData → LocalRuns → ℕ → ℕ → Local → Type 0
TookIn state runs k q after = (AreLinked state.grid k q × TakesIn state runs k q after)
    ⊎ ((¬ AreLinked state.grid k q) × (after ≡ runs q))

-- region q took it in, and all others are as they were
pub record OneTookIn (state : CellStateData) (old new : List RegionData) (k q : ℕ) : Type 0 where
  pub took : TookIn state (runs_of old) k q (runs_of new q)
  pub others : (x : ℕ) → x ≢ q → runs_of new x ≡ runs_of old x
  pub teller : runs_of new k ≡ runs_of old k
  pub stand : AllStand state new

-- all regions took in what region k sent, and stand on the state
pub record AllTookIn (state : CellStateData) (old : List RegionData) (k : ℕ) (new : List RegionData) : Type 0 where
  pub took : AllTakeIn state (runs_of old) k (runs_of new)
  pub stand : AllStand state new

-- ---- one event
-- regions of this grid stand on a state of the cell run
pub record StandOnCells (grid : GridData) (regions : List RegionData) (state : CellStateData) : Type 0 where
  pub is : IsCellState state
  pub grid_is : state.grid ≡ grid
  pub stand : AllStand state regions

-- a region that took back what it did since its floor
abbrev pub at_floor : RegionData → RegionData
at_floor region = rewound region.floor region

-- regions that stand were all taken back to the floor, and heard each other
pub record Refreshed (state : CellStateData) (regions fresh : List RegionData) : Type 0 where
  pub standing : AreStanding state (runs_of regions)
  pub back : LocalRuns
  pub rewound : (k : ℕ) → IsRegion state.grid k → back k ≡ rewound_to state.floor (runs_of regions k)
  pub pass : List Call
  pub is_pass : IsPass state pass
  pub hear : Hearings state back pass (runs_of fresh)
  pub stand : AllStand state fresh

-- if the step of region k ran the event, all regions took in what it sent; else they are as the step left them
abbrev pub TakenIfRan : CellStateData → List RegionData → ℕ → Step → List RegionData → Type 0
TakenIfRan state stepped k (Ran s) left = AllTookIn state stepped k left
TakenIfRan state stepped k _ left = left ≡ stepped

-- regions that stand ran the next event: all were taken back to the floor and heard each other, and the region whose
-- due stamp is the least made a step
pub record RunsEvent (state : CellStateData) (regions : List RegionData) (step : Step) (left : List RegionData) :
    Type 0 where
  pub fresh : List RegionData
  pub refreshed : Refreshed state regions fresh
  pub home : ℕ
  pub is_home : IsNextHome fresh home
  pub stepped : List RegionData
  pub turns : Turns fresh home step stepped
  pub taken : TakenIfRan state stepped home step left
  pub stand : AllStand state left

-- the second part of an advance, over regions that stand
abbrev pub MakesNext : CellStateData → List RegionData → Advance → CellStateData → List RegionData → Type 0
MakesNext old regions answer new left =
    AreStanding old (runs_of regions) × SecondPart old (runs_of regions) answer new left
