-- What a cell state keeps.
use Rattle.std.specs.Prelude.{◌≡◌, ℕ, ◌<◌, List, [], ◌∷◌, length, fold, slice_get, ⊤, Option, Some, None}
use Rattle.std.specs.Prelude.{IfSome, Result, Ok, Err}
use Rattle.std.specs.Option.{option_or}
use Rattle.fixed_motion.specs.declared.rules.Rules.{Rules}
use Rattle.fixed_motion.specs.declared.disk.Disk.{Disk}
use Rattle.fixed_motion.specs.Motion.{IsInBox, centre_of}
use Rattle.fixed_motion.specs.Scene.{SceneData, IsValidScene}
use Rattle.event_stamps.specs.declared.Stamp.{Stamp}
use Rattle.event_stamps.specs.Order.{Before, first_stamp, end_stamp}
use Rattle.event_rules.specs.declared.change.Limit.{Limit}
use Rattle.cell_grid.specs.Grid.{GridData, IsGridOf, grid_of}
use Rattle.region_view.specs.declared.action.Placed.{Placed}
use Rattle.region_view.specs.declared.action.Action.{Action}
use Rattle.region_view.specs.declared.action.Action.TheVariants.{Cross, Hit}
use Rattle.region_view.specs.Acting.{stamp_of, ActsAs}
use Rattle.cell_sequence.specs.Run.{opened, acted, CellSteps, IsStateCandidate, IsCellNext}

-- what contracts see of a cell state: the disks of the start, the stamp of the last action that was run, and the disks
-- as they are now; and a floor, a stamp before which no event is left
pub record CellStateData : Type 0 where
  pub rules : Rules
  pub grid : GridData
  pub opening : List Disk
  pub last : Option Stamp
  pub placed : List Placed
  pub floor : Stamp

-- the stamp of the last action, if there is any
abbrev pub last_stamp : List Action → Option Stamp
last_stamp [] = None
last_stamp (x ∷ []) = Some (stamp_of x)
last_stamp (x ∷ y ∷ xs) = last_stamp (y ∷ xs)

-- the list is what the disks of the start become by the actions of the cell run, up to and including the last one
abbrev pub IsReached : Rules → GridData → List Disk → Option Stamp → List Placed → Type 0
IsReached rules grid disks last placed = (actions : List Action)
    × CellSteps rules grid (opened grid disks) actions placed × (last ≡ last_stamp actions)

-- the stamp isn't before that of the last action, if there was any
abbrev pub IsNotBefore : Option Stamp → Stamp → Type 0
IsNotBefore None s = ⊤
IsNotBefore (Some last) s = ¬ Before s last

-- a state of the cell run of a valid scene, with a floor that no candidate lies below
pub record IsCellState (state : CellStateData) : Type 0 where
  pub scene : IsValidScene (record { rules = state.rules; disks = state.opening; every = None })
  pub grid : IsGridOf state.rules state.grid
  pub reached : IsReached state.rules state.grid state.opening state.last state.placed
  pub after_last : IsNotBefore state.last state.floor
  pub before_end : ¬ Before (end_stamp state.rules.end) state.floor
  pub none_below : (s : Stamp) → IsStateCandidate state.rules state.grid state.placed s →
      ¬ Before s state.floor

-- the cell state with which the run of a scene begins
abbrev pub opening_state : SceneData → ℕ → CellStateData
opening_state scene asked = record {
  rules = scene.rules;
  grid = grid_of scene.rules asked;
  opening = scene.disks;
  last = None;
  placed = opened (grid_of scene.rules asked) scene.disks;
  floor = first_stamp;
}

-- ---- the next event
-- an event that the state may have next
abbrev pub IsCandidateOf : CellStateData → Stamp → Type 0
IsCandidateOf state s = IsStateCandidate state.rules state.grid state.placed s

-- the next event of the state
abbrev pub IsNextOf : CellStateData → Stamp → Type 0
IsNextOf state s = IsCellNext state.rules state.grid state.placed s

-- the state has a next event
abbrev pub HasNext : CellStateData → Type 0
HasNext state = (s : Stamp) × IsNextOf state s

-- the result of the event in a state
abbrev pub ComesToInState : CellStateData → Stamp → Result Action Limit → Type 0
ComesToInState state s r = ActsAs state.rules state.grid (slice_get state.placed) s r

-- the state after an action, whose stamp becomes the floor
abbrev pub followed : CellStateData → Action → CellStateData
followed state x = record {
  rules = state.rules;
  grid = state.grid;
  opening = state.opening;
  last = Some (stamp_of x);
  placed = acted state.placed x;
  floor = stamp_of x;
}

-- the next event was run, or it failed, and the state is what it was
abbrev pub RunsNext : CellStateData → Result Action Limit → CellStateData → Type 0
RunsNext old (Ok x) new = IsNextOf old (stamp_of x) × ComesToInState old (stamp_of x) (Ok x)
    × (new ≡ followed old x)
RunsNext old (Err limit) new = (s : Stamp) × IsNextOf old s × ComesToInState old s (Err limit)
    × (new ≡ old)

-- the state after some actions
abbrev pub followed_by : CellStateData → List Action → CellStateData
followed_by state xs = fold followed state xs

-- no event is left before a stamp
abbrev pub HasNoneBelow : CellStateData → Stamp → Type 0
HasNoneBelow state s = (t : Stamp) → IsCandidateOf state t → ¬ Before t s

-- the same state with another floor
abbrev pub raised : Stamp → CellStateData → CellStateData
raised to state = record state { floor = to }

-- a later state of the same run; the last action that led there has this stamp, if there was any
abbrev pub later : CellStateData → List Placed → Option Stamp → Stamp → CellStateData
later state placed last floor = record {
  rules = state.rules;
  grid = state.grid;
  opening = state.opening;
  last = option_or last state.last;
  placed = placed;
  floor = floor;
}

-- ---- rows
-- the rows that an action changes are there
abbrev pub HasRows : List Placed → Action → Type 0
HasRows placed (Cross s cell) = s.first < length placed
HasRows placed (Hit c) = (c.stamp.first < length placed)
    × IfSome c.second (λ _. c.stamp.second < length placed)

-- the centres are in the box
abbrev pub AreInBox : List Disk → Type 0
AreInBox disks = (i : ℕ) (a : Disk) → slice_get disks i ≡ Some a → IsInBox (centre_of a)
