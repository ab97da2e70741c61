-- What a listener was told of a scene's run, at each place of its loop.
use Rattle.std.proofs.Common.{◌≡◌, ℕ, ◌<◌, List, []}
use Rattle.std.proofs.Common.{sym, ◌∙◌, subst, Option}
use Rattle.std.proofs.lemmas.Option.{none-some}
use Rattle.fixed_motion.specs.Scene.{SceneData, IsValidScene}
use Rattle.event_stamps.specs.Least.{HasNone}
use Rattle.event_rules.specs.declared.change.Change.{Change}
use Rattle.event_rules.specs.declared.change.Limit.{Limit as Failure}
use Rattle.event_rules.specs.declared.outcome.Spot.{Spot}
use Rattle.event_rules.specs.declared.outcome.Outcome.TheVariants.{Done, Limit as Passes}
use Rattle.event_rules.specs.declared.outcome.RunFault.{RunFault}
use Rattle.event_rules.specs.declared.outcome.RunFault.TheVariants.{NoMemory}
use Rattle.event_rules.specs.Run.{spots_of}
use Rattle.event_rules.specs.Told.{Told, AwaitsAll}
use Rattle.event_rules.specs.Tellings.{AwaitsRun, RunTold, RunCutShort}
use Rattle.event_rules.proofs.Telling.{told_none}
use Rattle.cell_grid.specs.Grid.{IsAsked}
use Rattle.cell_sequence.specs.Run.{disks_of, hits}
use Rattle.cell_sequence.specs.State.{CellStateData, IsCellState, IsCandidateOf, opening_state}
use Rattle.region_view.specs.declared.action.Action.{Action}
use Rattle.cell_sequence.proofs.Followed.{start_is}
use Rattle.local_run.specs.Opening.{RegionData}
use Rattle.local_run.specs.Bursts.{AreTogether}
use Rattle.run_floors.specs.Floors.{AreOfOneRun}
use Rattle.commit_horizon.specs.Horizon.{AllStand}
use Rattle.commit_horizon.specs.Telling.{HitsCutShort}
use Rattle.run_core.specs.declared.answers.Advance.{Advance}
use Rattle.run_core.specs.declared.answers.Advance.TheVariants.{Raised, End, Limit}
use Rattle.run_core.specs.Simulates.{batch_of, Advances, work_left}
use Rattle.run_core.specs.Advances.{FailsNext}
use Rattle.event_rules.proofs.RunsTold.{run_told, cut_short}
use Rattle.run_core.proofs.Simulating.{IsTold, open_told, awaits_untold, tells_rest, untold_cut, goes_on}
use Rattle.run_core.proofs.Simulating.{done_told, limit_told, leads_of}
use Rattle.run_core.proofs.Floors.{one_run_on}
use Rattle.run_core.proofs.Left.{advances_end}

-- after an advance
pub cell_after : {old new : CellStateData} {answer : Advance} → Advances old answer new → IsCellState new
cell_after {old} {new} {answer} advance = (leads_of old new advance.0 answer advance.1.is).cell

pub one_after : {old new : CellStateData} {answer : Advance} → Advances old answer new → AreOfOneRun old new
one_after {old} {new} {answer} advance = one_run_on old new advance.0 answer advance.1.is

module _ {M : Type 0} {after : M → Change → M} (torn : M → Change → M → Type 0) {scene : SceneData}
    (asked : ℕ) (valid : IsValidScene scene) (some : IsAsked asked) where
  -- at the start
  pub at_start : (old : Option M) (start : CellStateData) (untold : List Action) → start ≡ opening_state scene asked →
      untold ≡ [] → IsTold after scene asked start untold old old
  at_start old start untold is none =
      subst (λ (v : List Action). IsTold after scene asked start v old old) (sym none)
      (subst (λ (v : CellStateData). IsTold after scene asked v [] old old) (sym is)
      (open_told after torn scene asked valid some old))

  module _ {state : CellStateData} {untold : List Action} {old mid : Option M}
      (told : IsTold after scene asked state untold old mid) where
    -- what is untold is awaited
    pub awaits_now : (awaits : M → Change → Type 0) → AwaitsRun after awaits scene old →
        AwaitsAll after awaits mid (hits untold)
    awaits_now awaits each =
        awaits_untold after torn scene asked valid some state untold old mid told awaits each

    -- if the telling of it breaks off
    pub cut_so_far : (new : Option M) (fault : RunFault) → HitsCutShort after torn untold fault mid new →
        RunCutShort after torn scene fault old new
    cut_so_far new fault cut = cut_short after torn scene fault old new valid
        (untold_cut after torn scene asked valid some state untold old mid told fault new cut)

    -- if memory runs out
    pub all_so_far : RunCutShort after torn scene NoMemory old mid
    all_so_far = cut_so_far mid NoMemory (0, told_none after mid)

    module _ (new : Option M) (rest : Told after mid (hits untold) new) where
      -- once it was told
      pub rest_told : IsTold after scene asked state [] old new
      rest_told = tells_rest after torn scene asked valid some state untold old mid told new rest

      -- and the state went on by a batch
      pub told_on : {later : CellStateData} {answer : Advance} → Advances state answer later →
          (batch : List Action) → batch ≡ batch_of answer → IsTold after scene asked later batch old new
      told_on {later} {answer} advance batch same =
          subst (λ (v : List Action). IsTold after scene asked later v old new) (sym same)
          (goes_on after torn scene asked valid some state old new rest_told later advance.0 answer advance.1.is)

      -- or no event is left
      pub ends : (spots : List Spot) → HasNone (IsCandidateOf state) →
          spots ≡ spots_of state.rules.end (disks_of state.placed) → RunTold after scene (Done spots) old new
      ends spots none at = run_told after scene (Done spots) old new valid
          (done_told after torn scene asked valid some state old new rest_told spots none at)

      -- or the next one fails a limit
      pub fails : (limit : Failure) → FailsNext state limit → RunTold after scene (Passes limit) old new
      fails limit next = run_told after scene (Passes limit) old new valid
          (limit_told after torn scene asked valid some state old new rest_told limit next)

-- ---- states
-- no event is left after the last advance
pub none_left : {state later : CellStateData} {answer : Advance} {batch : List Action} →
    Advances state answer later → answer ≡ End batch → HasNone (IsCandidateOf later)
none_left {state} {later} advance is = (subst (λ (v : Advance). Advances state v later) is advance).1.is.1

-- or the next one fails a limit
pub next_fails : {state later : CellStateData} {answer : Advance} {batch : List Action} {limit : Failure} →
    Advances state answer later → answer ≡ Limit batch limit → FailsNext later limit
next_fails {state} {later} advance is = (subst (λ (v : Advance). Advances state v later) is advance).1.is.1

pub cell_at_start : (scene : SceneData) (asked : ℕ) (start : CellStateData) → IsValidScene scene →
    IsAsked asked → start ≡ opening_state scene asked → IsCellState start
cell_at_start scene asked start valid some is =
    subst IsCellState (sym is) (start_is scene asked valid some)

-- less is left if it isn't the last
pub less_left : {state later : CellStateData} {answer : Advance} {batch : List Action} → IsCellState state →
    Advances state answer later → answer ≡ Raised batch → work_left later < work_left state
less_left {state} {later} {batch = batch} cell advance is =
    let raised = subst (λ (v : Advance). Advances state v later) is advance in
    advances_end state later raised.0 batch cell raised.1.is

-- ---- regions
-- regions that stand on a state are together
pub stand_together : (state : CellStateData) (regions : List RegionData) → AllStand state regions →
    AreTogether regions
stand_together state regions stand = record {
  rules = state.rules;
  grid = state.grid;
  floor = state.floor;
  count = stand.count;
  each = λ k region at. let h = stand.each k region at in record {
    alive = λ none. none-some h.run (sym none ∙ h.alive);
    home = λ i. record { number = h.number i; rules = h.rules i; grid = h.grid i };
    floor_is = h.floor;
  };
}
