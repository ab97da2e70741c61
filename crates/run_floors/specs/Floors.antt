-- The states of one cell run.
use Rattle.std.specs.Prelude.{◌≡◌, ⊤, Option, Some, None}
use Rattle.event_stamps.specs.declared.Stamp.{Stamp}
use Rattle.event_stamps.specs.Order.{Before}
use Rattle.cell_sequence.specs.State.{CellStateData, IsCellState}

-- the last action, if there was any, comes before the stamp
abbrev pub IsPast : Option Stamp → Stamp → Type 0
IsPast None s = ⊤
IsPast (Some last) s = Before last s

-- a state of the cell run whose floor comes after its last action
pub record IsAtFloor (state : CellStateData) : Type 0 where
  pub is : IsCellState state
  pub past : IsPast state.last state.floor

-- the two are of the cell run of one scene, over the same grid
pub record AreOfOneRun (a b : CellStateData) : Type 0 where
  pub rules : a.rules ≡ b.rules
  pub grid : a.grid ≡ b.grid
  pub opening : a.opening ≡ b.opening

-- the state is of the run that begins with this one, if one is given
abbrev pub IsOfRun : Option CellStateData → CellStateData → Type 0
IsOfRun given state = (opening : CellStateData) → given ≡ Some opening → AreOfOneRun opening state
