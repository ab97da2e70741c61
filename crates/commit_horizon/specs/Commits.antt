-- What is taken over from a burst, and how a commit changes the state and the regions.
use Rattle.std.specs.Prelude.{◌≡◌, ℕ, List, Some, length, map, slice_get}
use Rattle.event_stamps.specs.declared.Stamp.{Stamp}
use Rattle.region_view.specs.declared.action.Action.{Action}
use Rattle.cell_sequence.specs.Run.{CellSteps}
use Rattle.cell_sequence.specs.State.{CellStateData, followed_by, HasNoneBelow}
use Rattle.cell_sequence.specs.State.{raised as raised_state}
use Rattle.local_run.specs.Opening.{RegionData, IsOpened}
use Rattle.local_run.specs.Standing.{StandsOn, DiffersBy}
use Rattle.local_run.specs.Raising.{raised_region as raised_region}
use Rattle.commit_horizon.specs.declared.committed.Adopted.{Adopted}
use Rattle.commit_horizon.specs.declared.committed.Adopted.TheVariants.{Kept, Made}
use Rattle.commit_horizon.specs.Horizon.{runs_of, IsHorizon, IsMerged, AllStand}

-- a region is kept, as it is, if and only if it stands on the state; else it is opened again, and the answer says why
abbrev pub Adopts : CellStateData → ℕ → RegionData → Adopted → Type 0
Adopts state k region (Kept kept) = StandsOn state k region × (kept ≡ region)
Adopts state k region (Made made differs) = DiffersBy state k region differs × IsOpened state k made

-- the region that is taken over
abbrev pub adopted_region : Adopted → RegionData
adopted_region (Kept kept) = kept
adopted_region (Made made differs) = made

-- a region for a number, given or opened again
abbrev pub IsAdopted : CellStateData → ℕ → RegionData → RegionData → Type 0
IsAdopted state k given region =
    (adopted : Adopted) × Adopts state k given adopted × (region ≡ adopted_region adopted)

-- the same at each place
pub record AllAdopted (state : CellStateData) (given regions : List RegionData) : Type 0 where
  pub count : length regions ≡ length given
  pub each : (k : ℕ) (old : RegionData) → slice_get given k ≡ Some old →
      (region : RegionData) × (slice_get regions k ≡ Some region) × IsAdopted state k old region

-- the batch is what the regions did before the horizon, which is what the cell run does next; the state has
-- gone on by it, and all floors are raised to the horizon
pub record Commits (old : CellStateData) (given : List RegionData) (batch : List Action)
    (new : CellStateData) (left : List RegionData) : Type 0 where
  pub horizon : Stamp
  pub is_horizon : IsHorizon old (runs_of given) horizon
  pub merged : IsMerged old (runs_of given) horizon batch
  pub steps : CellSteps old.rules old.grid old.placed batch new.placed
  pub none_below : HasNoneBelow new horizon
  pub state : new ≡ raised_state horizon (followed_by old batch)
  pub regions : left ≡ map (raised_region horizon) given
  pub stand : AllStand new left
