-- Laws of the states of one cell run.
use Rattle.std.specs.Prelude.{◌≡◌, ◌≢◌, ℕ}
use Rattle.region_view.specs.declared.action.Action.{Action}
use Rattle.region_view.specs.Acting.{stamp_of}
use Rattle.cell_sequence.specs.State.{CellStateData, IsCellState, followed, raised}
use Rattle.cell_sequence.specs.Laws.{IsNextAction}
use Rattle.local_run.specs.Opening.{RegionData}
use Rattle.local_run.specs.Standing.{StandsOn}
use Rattle.local_run.specs.RunOn.{IsRunOn}
use Rattle.run_floors.specs.Floors.{IsAtFloor, AreOfOneRun}

-- two states of one cell run with the same floor, which comes after the last action of each, are the same
abbrev pub OneStateAtAFloor : Type 0
OneStateAtAFloor = (a b : CellStateData) → IsAtFloor a → IsAtFloor b → AreOfOneRun a b → a.floor ≡ b.floor → a ≡ b

-- so two regions of one number that stand on such states, and have the same floor, begin alike
abbrev pub SameFloorBeginsAlike : Type 0
SameFloorBeginsAlike = (a b : CellStateData) (k : ℕ) (old new : RegionData) → IsAtFloor a → IsAtFloor b →
    AreOfOneRun a b → StandsOn a k old → StandsOn b k new → new.floor ≡ old.floor → IsRunOn old new

-- two different states of one run with the same floor
pub record AreTwoAtAFloor (before after : CellStateData) : Type 0 where
  pub is_before : IsCellState before
  pub is_after : IsCellState after
  pub one_run : AreOfOneRun before after
  pub floor : before.floor ≡ after.floor
  pub differ : before ≢ after

-- if the floor may be the last action's stamp, there are two: before the next action, and after it
abbrev pub FloorsAloneDontTell : Type 0
FloorsAloneDontTell = (state : CellStateData) (x : Action) → IsCellState state → IsNextAction state x →
    AreTwoAtAFloor (raised (stamp_of x) state) (followed state x)
