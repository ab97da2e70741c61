-- The result of an advance whose batch is left to be told.
use Rattle.std.specs.Prelude.{◌≡◌, List}
use Rattle.region_view.specs.declared.action.Action.{Action}
use Rattle.cell_sequence.specs.State.{CellStateData, followed_by, raised, last_stamp}
use Rattle.local_run.specs.Opening.{RegionData}
use Rattle.commit_horizon.specs.declared.cutting.Final.{Final}
use Rattle.commit_horizon.specs.Horizon.{runs_of, AllStand, AreStanding}
use Rattle.run_core.specs.declared.answers.Advance.{Advance}
use Rattle.run_core.specs.declared.answers.Advance.TheVariants.{Raised, End, Limit}
use Rattle.run_core.specs.declared.answers.AdvanceKind.{AdvanceKind}
use Rattle.run_core.specs.declared.answers.AdvanceKind.TheVariants.{Raised as GoesOn, End as Ends, Limit as Fails}
use Rattle.run_core.specs.Advances.{IsAdvance, Works, WorksInParts}
use Rattle.run_core.specs.Taking.{MakesNext}

-- the answer of an advance with this batch
abbrev pub answer_with : AdvanceKind → List Action → Advance
answer_with GoesOn batch = Raised batch
answer_with Ends batch = End batch
answer_with (Fails limit) batch = Limit batch limit

-- the second part of an advance, with this batch, and what is answered about the new state
pub record EventMade (old : CellStateData) (regions : List RegionData) (kind : AdvanceKind) (batch : List Action)
    (made : Final) (left : List RegionData) : Type 0 where
  pub new : CellStateData
  pub is : MakesNext old regions (answer_with kind batch) new left
  pub state : new ≡ raised made.floor (followed_by old batch)
  pub is_last : made.last ≡ last_stamp batch
  pub stand : AllStand new left

-- both parts of an advance, with this batch, and what is answered about the new state
pub record PartsMade (old : CellStateData) (regions : List RegionData) (kind : AdvanceKind) (batch : List Action)
    (made : Final) (left : List RegionData) : Type 0 where
  pub new : CellStateData
  pub standing : AreStanding old (runs_of regions)
  pub works : WorksInParts old (runs_of regions) (answer_with kind batch) new left
  pub state : new ≡ raised made.floor (followed_by old batch)
  pub is_last : made.last ≡ last_stamp batch
  pub stand : AllStand new left

-- an advance with this batch, and what is answered about the new state
pub record AdvanceMade (old : CellStateData) (regions : List RegionData) (kind : AdvanceKind) (batch : List Action)
    (made : Final) (left : List RegionData) : Type 0 where
  pub new : CellStateData
  pub works : Works old (runs_of regions) (answer_with kind batch) new left
  pub is : IsAdvance old (runs_of regions) (answer_with kind batch) new
  pub state : new ≡ raised made.floor (followed_by old batch)
  pub is_last : made.last ≡ last_stamp batch
  pub stand : AllStand new left
