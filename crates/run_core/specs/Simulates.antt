-- How far a run has come.
use Rattle.std.specs.Prelude.{ℕ, ◌+◌, ◌-◌, ◌≤◌, List, length, Option, Some, None}
use Rattle.fixed_motion.specs.Scene.{SceneData}
use Rattle.event_stamps.specs.declared.Stamp.{Stamp}
use Rattle.event_stamps.specs.Order.{end_stamp, rank}
use Rattle.event_rules.specs.declared.outcome.Outcome.{Outcome}
use Rattle.region_view.specs.declared.action.Action.{Action}
use Rattle.cell_sequence.specs.Run.{IsCellRun}
use Rattle.cell_sequence.specs.State.{CellStateData}
use Rattle.local_run.specs.Opening.{RegionData}
use Rattle.commit_horizon.specs.Horizon.{LocalRuns}
use Rattle.run_core.specs.declared.answers.Advance.{Advance}
use Rattle.run_core.specs.declared.answers.Advance.TheVariants.{Raised, End, Limit}
use Rattle.run_core.specs.Advances.{IsAdvance, Works}

-- the actions that an advance committed
abbrev pub batch_of : Advance → List Action
batch_of (Raised batch) = batch
batch_of (End batch) = batch
batch_of (Limit batch limit) = batch

-- a number that is less for lesser stamps, and least if there is none
abbrev pub rank_of : Option Stamp → ℕ
rank_of None = 0
rank_of (Some s) = rank s + 1

-- how far the last action is from the end
unfoldable pub work_left : CellStateData → ℕ
work_left state = rank (end_stamp state.rules.end) - rank_of state.last

-- an advance, of regions with these runs that stand on the state, and how it worked
pub record AdvancesBy (old : CellStateData) (runs : LocalRuns) (answer : Advance) (new : CellStateData) : Type 0 where
  pub left : List RegionData
  pub is : IsAdvance old runs answer new
  pub works : Works old runs answer new left

-- an advance of what a burst gave back
abbrev pub Advances : CellStateData → Advance → CellStateData → Type 0
Advances old answer new = (runs : LocalRuns) × AdvancesBy old runs answer new

-- a number of bursts before and after a run with this outcome: at most one more than its cell run has actions
abbrev pub FewBursts : SceneData → ℕ → Outcome → ℕ → ℕ → Type 0
FewBursts scene asked outcome before after =
    (actions : List Action) × IsCellRun scene asked actions outcome × (after ≤ before + length actions + 1)
