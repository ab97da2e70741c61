-- What holds of all cell runs.
use Rattle.std.specs.Prelude.{◌≡◌, ◌≢◌, ◌⊎◌, ℕ, List, [], ◌∷◌, ◌++◌, slice_get, Some, None, Result, Ok}
use Rattle.fixed_motion.specs.declared.rules.Rules.{Rules}
use Rattle.fixed_motion.specs.Scene.{SceneData, IsValidScene}
use Rattle.event_stamps.specs.declared.Stamp.{Stamp}
use Rattle.event_stamps.specs.Order.{Before, IsInRange, first_stamp, end_stamp}
use Rattle.event_stamps.specs.declared.Kind.TheVariants.{Cross as Crossing}
use Rattle.event_rules.specs.declared.change.Limit.{Limit}
use Rattle.event_rules.specs.declared.outcome.Outcome.{Outcome}
use Rattle.event_rules.specs.Run.{IsRun, Steps, IsValidState}
use Rattle.cell_grid.specs.Grid.{GridData, grid_of, IsAsked, IsCell, IsRegion, IsAdjacent, AreLinked, Reaches}
use Rattle.region_view.specs.declared.action.Placed.{Placed}
use Rattle.region_view.specs.declared.action.Action.{Action}
use Rattle.region_view.specs.declared.action.Action.TheVariants.{Cross}
use Rattle.region_view.specs.Placing.{IsValidPlacing, IsHome}
use Rattle.region_view.specs.Acting.{stamp_of, ActsAs}
use Rattle.region_view.specs.Views.{ViewData, rows_in, IsViewOf}
use Rattle.region_view.specs.Setting.{set_rows, after_action}
use Rattle.region_view.specs.Messages.{message_of}
use Rattle.region_view.specs.declared.rows.Message.{Message}
use Rattle.cell_sequence.specs.Run.{opened, disks_of, acted, IsStateCandidate, IsCellNext}
use Rattle.cell_sequence.specs.Run.{CellSteps, CellRuns, IsCellRun, hits}
use Rattle.cell_sequence.specs.State.{CellStateData, IsCellState, IsCandidateOf, IsNextOf, ComesToInState, followed}

-- a cell state has one run
abbrev pub OneCellRun : Type 0
OneCellRun = (rules : Rules) (grid : GridData) (placed : List Placed) (xs ys : List Action)
    (e f : Outcome) →
    CellRuns rules grid placed xs e → CellRuns rules grid placed ys f → (xs ≡ ys) × (e ≡ f)

-- the actions so far are a prefix of the cell run
abbrev pub CellStepsBegin : Type 0
CellStepsBegin = (rules : Rules) (grid : GridData) (placed later : List Placed)
    (xs ys : List Action) (e : Outcome) →
    CellSteps rules grid placed xs later → CellRuns rules grid placed ys e → (rest : List Action)
    × (ys ≡ xs ++ rest) × CellRuns rules grid later rest e

-- the collisions of a cell run are the changes of the scene's run, with the same outcome
abbrev pub HitsAreChanges : Type 0
HitsAreChanges = (scene : SceneData) (asked : ℕ) (actions : List Action) (outcome : Outcome) →
    IsValidScene scene → IsAsked asked →
    IsCellRun scene asked actions outcome → IsRun scene (hits actions) outcome

-- the collisions among the first actions are the first changes
abbrev pub HitsAreSteps : Type 0
HitsAreSteps = (scene : SceneData) (asked : ℕ) (actions : List Action) (later : List Placed) →
    IsValidScene scene → IsAsked asked →
    CellSteps scene.rules (grid_of scene.rules asked)
    (opened (grid_of scene.rules asked) scene.disks) actions later →
    Steps scene.rules scene.disks (hits actions) (disks_of later)

-- the stamps of the actions rise strictly, all after this one
abbrev pub ActionsRiseFrom : Stamp → List Action → Type 0
ActionsRiseFrom s [] = Unit {0}
ActionsRiseFrom s (x ∷ xs) = Before s (stamp_of x) × ActionsRiseFrom (stamp_of x) xs

-- the stamps of the actions are all before this one
abbrev pub ActionsEndBefore : Stamp → List Action → Type 0
ActionsEndBefore s [] = Unit {0}
ActionsEndBefore s (x ∷ xs) = Before (stamp_of x) s × ActionsEndBefore s xs

-- the stamps of a cell run rise strictly, those of crossings among them
abbrev pub ActionsRise : Type 0
ActionsRise = (scene : SceneData) (asked : ℕ) (actions : List Action) (outcome : Outcome) →
    IsValidScene scene → IsAsked asked →
    IsCellRun scene asked actions outcome → ActionsRiseFrom first_stamp actions
    × ActionsEndBefore (end_stamp scene.rules.end) actions

-- each valid scene has a cell run, which ends, for any number of regions that may be asked for
abbrev pub EachSceneCellRuns : Type 0
EachSceneCellRuns = (scene : SceneData) (asked : ℕ) → IsValidScene scene → IsAsked asked →
    (actions : List Action) × (outcome : Outcome) × IsCellRun scene asked actions outcome

-- a row that the action touches, in the reach of a region before and after
abbrev pub IsTouched : GridData → List Placed → Action → ℕ → ℕ → Type 0
IsTouched grid placed x region i = (p q : Placed) × (slice_get placed i ≡ Some p)
    × (slice_get (acted placed x) i ≡ Some q) × Reaches grid region p.cell
    × Reaches grid region q.cell

-- what is known of a state of the cell run and of its next action
pub record IsOrderly (state : CellStateData) : Type 0 where
  pub records : IsValidState state.rules (disks_of state.placed)
  pub rows : IsValidPlacing state.rules state.grid (slice_get state.placed)
  -- its events come after its last action, and before the end, and their stamps are in range
  pub after_last : (last s : Stamp) → state.last ≡ Some last →
      IsStateCandidate state.rules state.grid state.placed s → Before last s
  pub before_end : (s : Stamp) → IsStateCandidate state.rules state.grid state.placed s →
      Before s (end_stamp state.rules.end)
  pub in_range : (s : Stamp) → IsStateCandidate state.rules state.grid state.placed s → IsInRange s
  -- a crossing fails no limit, and leads to an adjacent cell
  pub crosses : (s : Stamp) (r : Result Action Limit) →
      IsCellNext state.rules state.grid state.placed s → s.kind ≡ Crossing →
      ActsAs state.rules state.grid (slice_get state.placed) s r →
      (p : Placed) × (cell : ℕ) × (slice_get state.placed s.first ≡ Some p)
      × (r ≡ Ok (Cross s cell)) × IsCell state.grid cell × IsAdjacent state.grid p.cell cell
  -- all that an action touches is in the reach of its home, before and after
  pub stays : (x : Action) (region i : ℕ) → IsRegion state.grid region →
      IsCellNext state.rules state.grid state.placed (stamp_of x) →
      ActsAs state.rules state.grid (slice_get state.placed) (stamp_of x) (Ok x) →
      IsHome state.grid (slice_get state.placed) region (stamp_of x) →
      (slice_get (acted state.placed x) i ≡ slice_get state.placed i)
      ⊎ IsTouched state.grid state.placed x region i

-- each state of the cell run is orderly
abbrev pub CellStatesAreOrderly : Type 0
CellStatesAreOrderly = (state : CellStateData) → IsCellState state → IsOrderly state

-- if steps and a run begin where others led, they go on from these
abbrev pub StepsJoin : Type 0
StepsJoin = (rules : Rules) (grid : GridData) (placed mid later : List Placed)
    (xs ys : List Action) →
    CellSteps rules grid placed xs mid → CellSteps rules grid mid ys later →
    CellSteps rules grid placed (xs ++ ys) later

-- steps to a state and the run from there are together a run
abbrev pub RunsJoin : Type 0
RunsJoin = (rules : Rules) (grid : GridData) (placed mid : List Placed) (xs ys : List Action)
    (outcome : Outcome) →
    CellSteps rules grid placed xs mid → CellRuns rules grid mid ys outcome →
    CellRuns rules grid placed (xs ++ ys) outcome

-- the changes of two lists of actions, one after the other, are those of the first and then those of the second
abbrev pub HitsJoin : Type 0
HitsJoin = (xs ys : List Action) → hits (xs ++ ys) ≡ hits xs ++ hits ys

-- ---- what the regions see
-- a view is that of a region in a state
abbrev pub Sees : CellStateData → ℕ → ViewData → Type 0
Sees state k view = IsViewOf state.grid k (slice_get state.placed) view

-- the next event comes to this action
abbrev pub IsNextAction : CellStateData → Action → Type 0
IsNextAction state x = IsNextOf state (stamp_of x) × ComesToInState state (stamp_of x) (Ok x)

-- the region is the home of an event
abbrev pub IsHomeOf : CellStateData → Stamp → ℕ → Type 0
IsHomeOf state s k = IsRegion state.grid k × IsHome state.grid (slice_get state.placed) k s

-- the next action of a state, and what the regions see of it
pub record IsSeen (state : CellStateData) (x : Action) : Type 0 where
  -- it leads to a state of the cell run, whose events come after it
  pub leads : IsCellState (followed state x)
  pub rises : (s : Stamp) → IsCandidateOf (followed state x) s → Before (stamp_of x) s
  -- its home sees by itself how the disks are changed
  pub home : (k : ℕ) (view : ViewData) → IsHomeOf state (stamp_of x) k → Sees state k view →
      Sees (followed state x) k (after_action view x)
  -- another region sees it by the message that the home sends
  pub told : (k q : ℕ) (view seen : ViewData) (m : Message) → IsHomeOf state (stamp_of x) k →
      Sees state k view → Sees state q seen → message_of state.grid q (rows_in view) x ≡ Some m →
      Sees (followed state x) q (set_rows seen m.rows)
  -- and one that is told nothing sees what it saw
  pub kept : (k q : ℕ) (view seen : ViewData) → IsHomeOf state (stamp_of x) k → Sees state k view →
      Sees state q seen → k ≢ q → IsRegion state.grid q →
      (AreLinked state.grid k q → message_of state.grid q (rows_in view) x ≡ None) →
      Sees (followed state x) q seen

-- for each state of the cell run, the regions see its next action in this way
abbrev pub NextActionsAreSeen : Type 0
NextActionsAreSeen = (state : CellStateData) (x : Action) → IsCellState state → IsNextAction state x →
    IsSeen state x
