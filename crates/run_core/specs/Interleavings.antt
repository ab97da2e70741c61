-- Interleavings: regions make the calls of any lists, and the state advances after each.
use Rattle.std.specs.Prelude.{◌≡◌, ◌⊎◌, ℕ, List, [], ◌∷◌, ◌++◌}
use Rattle.fixed_motion.specs.Scene.{SceneData, IsValidScene}
use Rattle.event_rules.specs.declared.change.Limit.{Limit as Failure}
use Rattle.event_rules.specs.declared.outcome.Outcome.{Outcome}
use Rattle.event_rules.specs.declared.outcome.Outcome.TheVariants.{Done, Limit as Fails}
use Rattle.event_rules.specs.Run.{IsRun, Steps, spots_of}
use Rattle.cell_grid.specs.Grid.{IsAsked}
use Rattle.region_view.specs.declared.action.Action.{Action}
use Rattle.cell_sequence.specs.Run.{disks_of, hits}
use Rattle.cell_sequence.specs.State.{CellStateData, opening_state}
use Rattle.local_run.specs.Opening.{RegionData}
use Rattle.commit_horizon.specs.Horizon.{runs_of, AllStand}
use Rattle.run_core.specs.declared.playing.CoreStep.{CoreStep}
use Rattle.run_core.specs.declared.playing.Answer.{Answer}
use Rattle.run_core.specs.declared.answers.Advance.{Advance}
use Rattle.run_core.specs.declared.answers.Advance.TheVariants.{Raised, End, Limit}
use Rattle.run_core.specs.Advances.{IsAdvance}
use Rattle.run_core.specs.Plays.{Plays}

-- regions that stand on a state stand on it after any calls
abbrev pub PlayedStand : Type 0
PlayedStand = (state : CellStateData) (regions worked : List RegionData) (calls : List CoreStep) (answers : List Answer) →
    AllStand state regions → Plays regions calls answers worked → AllStand state worked

-- regions that stand on a state make these calls, and then the state advances
pub record PlaysAndAdvances (old : CellStateData) (calls : List CoreStep) (answer : Advance) (new : CellStateData) : Type 0 where
  pub regions : List RegionData
  pub stand : AllStand old regions
  pub answers : List Answer
  pub worked : List RegionData
  pub plays : Plays regions calls answers worked
  pub advances : IsAdvance old (runs_of worked) answer new

-- the calls of each list are made, and each time an advance makes more actions final: these, up to the new state
abbrev pub Interleaves : CellStateData → List (List CoreStep) → List Action → CellStateData → Type 0
Interleaves old [] actions new = (actions ≡ []) × (new ≡ old)
Interleaves old (calls ∷ lists) actions new = (batch : List Action) × (rest : List Action) × (mid : CellStateData)
    × PlaysAndAdvances old calls (Raised batch) mid × Interleaves mid lists rest new × (actions ≡ batch ++ rest)

-- the calls of one list more are made, and the advance that makes these actions final is the last
abbrev pub EndsWith : CellStateData → List CoreStep → List Action → Outcome → Type 0
EndsWith old calls batch outcome = (new : CellStateData) × (
    (PlaysAndAdvances old calls (End batch) new × (outcome ≡ Done (spots_of new.rules.end (disks_of new.placed))))
    ⊎ ((limit : Failure) × PlaysAndAdvances old calls (Limit batch limit) new × (outcome ≡ Fails limit)))

-- whatever calls regions make, and however many before each advance: the collisions that are final are the first of the
-- scene's run and lead to the state's disks, and at the end they are that run
abbrev pub InterleavingsTellTheRun : Type 0
InterleavingsTellTheRun = (scene : SceneData) (asked : ℕ) (lists : List (List CoreStep)) (actions : List Action) (state : CellStateData) →
    IsValidScene scene → IsAsked asked → Interleaves (opening_state scene asked) lists actions state →
    Steps scene.rules scene.disks (hits actions) (disks_of state.placed)
    × ((calls : List CoreStep) (batch : List Action) (outcome : Outcome) → EndsWith state calls batch outcome →
    IsRun scene (hits (actions ++ batch)) outcome)
