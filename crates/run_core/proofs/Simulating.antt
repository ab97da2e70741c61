-- What was told of the run of a scene, one advance after the other, while the last batch may be untold.
use Rattle.std.proofs.Common.{◌≡◌, ℕ, List, [], ◌∷◌, ◌++◌, append-nil, sym, ap, ◌∙◌, subst, refl, Option}
use Rattle.fixed_motion.specs.declared.rules.Rules.{Rules}
use Rattle.fixed_motion.specs.Scene.{SceneData, IsValidScene}
use Rattle.event_stamps.specs.Least.{HasNone}
use Rattle.event_rules.specs.declared.change.Change.{Change}
use Rattle.event_rules.specs.declared.change.Limit.{Limit as Failure}
use Rattle.event_rules.specs.declared.outcome.Spot.{Spot}
use Rattle.event_rules.specs.declared.outcome.Outcome.{Outcome}
use Rattle.event_rules.specs.declared.outcome.Outcome.TheVariants.{Done, Limit as Passes}
use Rattle.event_rules.specs.declared.outcome.RunFault.{RunFault}
use Rattle.event_rules.specs.declared.outcome.RunFault.TheVariants.{Listener, NoMemory}
use Rattle.event_rules.specs.Tellings.{AwaitsRun, StepsCutShort, bare_scene}
use Rattle.event_rules.specs.Run.{IsRun, Steps, spots_of}
use Rattle.event_rules.specs.Told.{Told, AwaitsAll}
use Rattle.event_rules.proofs.Telling.{told_none, awaits_rest}
use Rattle.cell_grid.specs.Grid.{GridData, grid_of, IsAsked}
use Rattle.region_view.specs.declared.action.Action.{Action}
use Rattle.cell_sequence.specs.Run.{opened, disks_of, hits, CellSteps, CellRuns}
use Rattle.cell_sequence.specs.State.{CellStateData, IsCandidateOf, followed, followed_by, opening_state}
use Rattle.cell_sequence.proofs.Joins.{steps_join, runs_join, hits_join}
use Rattle.cell_sequence.proofs.Hits.{hits_are_changes, hits_are_steps}
use Rattle.commit_horizon.specs.Horizon.{LocalRuns}
use Rattle.commit_horizon.proofs.Tellings.{told_in_turn}
use Rattle.run_core.specs.declared.answers.Advance.{Advance}
use Rattle.run_core.specs.declared.answers.Advance.TheVariants.{Raised, End, Limit}
use Rattle.commit_horizon.specs.Telling.{HitsCutShort}
use Rattle.run_core.specs.Advances.{Leads, FailsNext, IsAdvance}
use Rattle.run_core.specs.Simulates.{batch_of}
use Rattle.run_core.specs.Laws.{LimitsEndTheRun}
use Rattle.run_core.proofs.Advancing.{rules_after}
use Rattle.run_core.proofs.Prefixes.{whole_after, prefix_after}

-- ---- advances
pub leads_of : (old new : CellStateData) (runs : LocalRuns) (answer : Advance) → IsAdvance old runs answer new →
    Leads old runs (batch_of answer) new
leads_of old new runs (Raised batch) h = h.0
leads_of old new runs (End batch) h = h.0
leads_of old new runs (Limit batch limit) h = h.0

pub grid_after : (xs : List Action) (state : CellStateData) → (followed_by state xs).grid ≡ state.grid
grid_after [] state = refl
grid_after (x ∷ xs) state = grid_after xs (followed state x)

-- a limit that is answered ends the cell run
pub limits_end_the_run : LimitsEndTheRun
limits_end_the_run old new runs batch limit (leads, fails) =
    let rules = ap (λ (v : CellStateData). v.rules) leads.state ∙ rules_after batch old in
    let grid = ap (λ (v : CellStateData). v.grid) leads.state ∙ grid_after batch old in
    subst (λ (v : List Action). CellRuns old.rules old.grid old.placed v (Passes limit)) (append-nil batch)
    (runs_join old.rules old.grid old.placed new.placed batch [] (Passes limit) leads.steps
    (subst (λ (g : GridData). CellRuns old.rules g new.placed [] (Passes limit)) grid
    (subst (λ (r : Rules). CellRuns r new.grid new.placed [] (Passes limit)) rules fails)))

-- ---- what was told so far
-- the state is one of the run of the scene; the collisions of its actions were told, but for those of the last ones,
-- which are untold
pub record IsTold {M : Type 0} (after : M → Change → M) (scene : SceneData) (asked : ℕ)
    (state : CellStateData) (untold : List Action) (old new : Option M) : Type 0 where
  pub rules : state.rules ≡ scene.rules
  pub grid : state.grid ≡ grid_of scene.rules asked
  pub done : List Action
  pub steps : CellSteps scene.rules (grid_of scene.rules asked)
      (opened (grid_of scene.rules asked) scene.disks) (done ++ untold) state.placed
  pub told : Told after old (hits done) new

module _ {M : Type 0} (after : M → Change → M) (torn : M → Change → M → Type 0) (scene : SceneData)
    (asked : ℕ) (valid : IsValidScene scene) (some : IsAsked asked) where
  -- at the start nothing was, and nothing is untold
  pub open_told : (old : Option M) → IsTold after scene asked (opening_state scene asked) [] old old
  open_told old = record {
    rules = refl;
    grid = refl;
    done = [];
    steps = refl;
    told = told_none after old;
  }

  module _ (state : CellStateData) (untold : List Action) (old mid : Option M)
      (so_far : IsTold after scene asked state untold old mid) where
    -- the changes that were told, and those that are untold
    all_steps : Steps scene.rules scene.disks (hits so_far.done ++ hits untold) (disks_of state.placed)
    all_steps = subst (λ (v : List Change). Steps scene.rules scene.disks v (disks_of state.placed))
        (hits_join so_far.done untold)
        (hits_are_steps scene asked (so_far.done ++ untold) state.placed valid some so_far.steps)

    -- what is untold is awaited
    pub awaits_untold : (awaits : M → Change → Type 0) → AwaitsRun after awaits scene old →
        AwaitsAll after awaits mid (hits untold)
    awaits_untold awaits each = awaits_rest after awaits old mid (hits so_far.done) (hits untold) so_far.told
        (each (hits so_far.done ++ hits untold) (disks_of state.placed) all_steps)

    -- once it was told, nothing is
    pub tells_rest : (new : Option M) → Told after mid (hits untold) new → IsTold after scene asked state [] old new
    tells_rest new told = record {
      rules = so_far.rules;
      grid = so_far.grid;
      done = so_far.done ++ untold;
      steps = subst (λ (v : List Action). CellSteps scene.rules (grid_of scene.rules asked)
          (opened (grid_of scene.rules asked) scene.disks) v state.placed)
          (sym (append-nil (so_far.done ++ untold))) so_far.steps;
      told = subst (λ (v : List Change). Told after old v new) (sym (hits_join so_far.done untold))
          (told_in_turn after old mid new (hits so_far.done) (hits untold) so_far.told told);
    }

    -- if the telling of it breaks off
    pub untold_cut : (fault : RunFault) (new : Option M) → HitsCutShort after torn untold fault mid new →
        StepsCutShort after torn (bare_scene scene.rules scene.disks) fault old new
    untold_cut Listener new cut = (
      hits so_far.done ++ hits untold,
      disks_of state.placed,
      all_steps,
      prefix_after after torn old mid new (hits so_far.done) (hits untold) so_far.told cut,
    )
    untold_cut NoMemory new cut = (
      hits so_far.done ++ hits untold,
      disks_of state.placed,
      all_steps,
      whole_after after old mid new (hits so_far.done) (hits untold) so_far.told cut,
    )

  module _ (state : CellStateData) (old new : Option M) (so_far : IsTold after scene asked state [] old new) where
    all_done : CellSteps scene.rules (grid_of scene.rules asked) (opened (grid_of scene.rules asked) scene.disks)
        so_far.done state.placed
    all_done = subst (λ (v : List Action). CellSteps scene.rules (grid_of scene.rules asked)
        (opened (grid_of scene.rules asked) scene.disks) v state.placed) (append-nil so_far.done) so_far.steps

    -- after an advance its batch is untold
    pub goes_on : (later : CellStateData) (runs : LocalRuns) (answer : Advance) → IsAdvance state runs answer later →
        IsTold after scene asked later (batch_of answer) old new
    goes_on later runs answer advance =
        let batch = batch_of answer in
        let leads = leads_of state later runs answer advance in record {
          rules = ap (λ (v : CellStateData). v.rules) leads.state ∙ rules_after batch state ∙ so_far.rules;
          grid = ap (λ (v : CellStateData). v.grid) leads.state ∙ grid_after batch state ∙ so_far.grid;
          done = so_far.done;
          steps = steps_join scene.rules (grid_of scene.rules asked)
              (opened (grid_of scene.rules asked) scene.disks) state.placed later.placed so_far.done batch all_done
              (subst (λ (g : GridData). CellSteps scene.rules g state.placed batch later.placed) so_far.grid
              (subst (λ (r : Rules). CellSteps r state.grid state.placed batch later.placed) so_far.rules
              leads.steps));
          told = so_far.told;
        }

    -- ---- the end
    -- the run as it ends in this state
    ends : (outcome : Outcome) → CellRuns state.rules state.grid state.placed [] outcome →
        (changes : List Change) × IsRun scene changes outcome × Told after old changes new
    ends outcome end = (
      hits so_far.done,
      hits_are_changes scene asked so_far.done outcome valid some
          (subst (λ (v : List Action). CellRuns scene.rules (grid_of scene.rules asked)
          (opened (grid_of scene.rules asked) scene.disks) v outcome) (append-nil so_far.done)
          (runs_join scene.rules (grid_of scene.rules asked) (opened (grid_of scene.rules asked) scene.disks)
          state.placed so_far.done [] outcome all_done
          (subst (λ (g : GridData). CellRuns scene.rules g state.placed [] outcome) so_far.grid
          (subst (λ (r : Rules). CellRuns r state.grid state.placed [] outcome) so_far.rules end)))),
      so_far.told,
    )

    -- no event is left
    pub done_told : (spots : List Spot) → HasNone (IsCandidateOf state) →
        spots ≡ spots_of state.rules.end (disks_of state.placed) →
        (changes : List Change) × IsRun scene changes (Done spots) × Told after old changes new
    done_told spots none at = ends (Done spots) (none, at)

    -- or the next one fails a limit
    pub limit_told : (limit : Failure) → FailsNext state limit →
        (changes : List Change) × IsRun scene changes (Passes limit) × Told after old changes new
    limit_told limit fails = ends (Passes limit) fails
