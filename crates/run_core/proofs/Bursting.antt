-- A run takes few bursts, as each but the last makes an action final.
use Rattle.std.proofs.Common.{◌≡◌, ◌≢◌, ℕ, ◌+◌, ◌≤◌, List, [], ◌∷◌, ◌++◌, length, length-append, append-nil, sym, ap, ◌∙◌, subst, refl, arith}
use Rattle.fixed_motion.specs.declared.rules.Rules.{Rules}
use Rattle.fixed_motion.specs.Scene.{SceneData}
use Rattle.event_rules.specs.declared.change.Limit.{Limit as Failure}
use Rattle.event_rules.specs.declared.outcome.Spot.{Spot}
use Rattle.event_rules.specs.declared.outcome.Outcome.{Outcome}
use Rattle.event_rules.specs.declared.outcome.Outcome.TheVariants.{Done, Limit as Passes}
use Rattle.event_rules.specs.Run.{spots_of}
use Rattle.cell_grid.specs.Grid.{GridData, grid_of}
use Rattle.region_view.specs.declared.action.Action.{Action}
use Rattle.cell_sequence.specs.Run.{opened, disks_of, CellSteps, CellRuns}
use Rattle.cell_sequence.specs.State.{CellStateData, opening_state}
use Rattle.cell_sequence.proofs.Joins.{steps_join, runs_join}
use Rattle.commit_horizon.specs.Horizon.{LocalRuns}
use Rattle.run_core.specs.declared.answers.Advance.{Advance}
use Rattle.run_core.specs.declared.answers.Advance.TheVariants.{Raised, End, Limit}
use Rattle.run_core.specs.Advances.{Leads}
use Rattle.run_core.specs.Simulates.{Advances, FewBursts}
use Rattle.run_core.proofs.Advancing.{rules_after}
use Rattle.run_core.proofs.Simulating.{grid_after}

-- how far a run has come: by these actions, and in no more bursts
pub record HasCome (scene : SceneData) (asked before : ℕ) (state : CellStateData) (now : ℕ) : Type 0 where
  pub done : List Action
  pub rules : state.rules ≡ scene.rules
  pub grid : state.grid ≡ grid_of scene.rules asked
  pub steps : CellSteps scene.rules (grid_of scene.rules asked) (opened (grid_of scene.rules asked) scene.disks) done state.placed
  pub few : now ≤ before + length done

pub come_at_start : (scene : SceneData) (asked n : ℕ) (start : CellStateData) → start ≡ opening_state scene asked → HasCome scene asked n start n
come_at_start scene asked n start is = subst (λ (v : CellStateData). HasCome scene asked n v n) (sym is) (record {
  done = [];
  rules = refl;
  grid = refl;
  steps = refl;
  few = omega arith;
})

-- with the actions of a batch, and one burst more
record HasLed (scene : SceneData) (asked before : ℕ) (state : CellStateData) (batch : List Action) (now : ℕ) : Type 0 where
  pub done : List Action
  pub rules : state.rules ≡ scene.rules
  pub grid : state.grid ≡ grid_of scene.rules asked
  pub steps : CellSteps scene.rules (grid_of scene.rules asked) (opened (grid_of scene.rules asked) scene.disks) (done ++ batch) state.placed
  pub few : now ≤ before + length done + 1

led : {scene : SceneData} {asked before m : ℕ} {old : CellStateData} → HasCome scene asked before old m →
    (later : CellStateData) (runs : LocalRuns) (batch : List Action) (k : ℕ) → Leads old runs batch later → k ≤ m + 1 → HasLed scene asked before later batch k
led {scene} {asked} {before} {m} {old} come later runs batch k leads more = record {
  done = come.done;
  rules = ap (λ (v : CellStateData). v.rules) leads.state ∙ rules_after batch old ∙ come.rules;
  grid = ap (λ (v : CellStateData). v.grid) leads.state ∙ grid_after batch old ∙ come.grid;
  steps = steps_join scene.rules (grid_of scene.rules asked) (opened (grid_of scene.rules asked) scene.disks) old.placed later.placed come.done batch come.steps
      (subst (λ (g : GridData). CellSteps scene.rules g old.placed batch later.placed) come.grid
      (subst (λ (r : Rules). CellSteps r old.grid old.placed batch later.placed) come.rules leads.steps));
  few = let so_far = come.few in omega arith;
}

some_length : (batch : List Action) → batch ≢ [] → 1 ≤ length batch
some_length [] some = absurd (some refl)
some_length (x ∷ xs) some = omega arith

pub come_on : {scene : SceneData} {asked before m k : ℕ} {old later : CellStateData} {answer : Advance} {batch : List Action} →
    HasCome scene asked before old m → Advances old answer later → answer ≡ Raised batch → k ≤ m + 1 → HasCome scene asked before later k
come_on {scene} {asked} {before} {m} {k} {old} {later} {answer} {batch} come advance is more =
    let raised = subst (λ (v : Advance). Advances old v later) is advance in
    let on = led come later raised.0 batch k raised.1.is.0 more in
    let some = some_length batch raised.1.is.1 in
    record {
      done = on.done ++ batch;
      rules = on.rules;
      grid = on.grid;
      steps = on.steps;
      few = let so_far = on.few in omega (arith, length-append on.done batch);
    }

-- the whole run
whole : {scene : SceneData} {asked before k : ℕ} {later : CellStateData} {batch : List Action} → HasLed scene asked before later batch k →
    (outcome : Outcome) → CellRuns later.rules later.grid later.placed [] outcome → FewBursts scene asked outcome before k
whole {scene} {asked} {before} {k} {later} {batch} on outcome end = (
  on.done ++ batch,
  subst (λ (v : List Action). CellRuns scene.rules (grid_of scene.rules asked) (opened (grid_of scene.rules asked) scene.disks) v outcome) (append-nil (on.done ++ batch))
      (runs_join scene.rules (grid_of scene.rules asked) (opened (grid_of scene.rules asked) scene.disks) later.placed (on.done ++ batch) [] outcome on.steps
      (subst (λ (g : GridData). CellRuns scene.rules g later.placed [] outcome) on.grid
      (subst (λ (r : Rules). CellRuns r later.grid later.placed [] outcome) on.rules end))),
  (let so_far = on.few in omega (arith, length-append on.done batch)),
)

pub come_to_end : {scene : SceneData} {asked before m k : ℕ} {old later : CellStateData} {answer : Advance} {batch : List Action} →
    HasCome scene asked before old m → Advances old answer later → answer ≡ End batch → k ≤ m + 1 →
    (spots : List Spot) → spots ≡ spots_of later.rules.end (disks_of later.placed) → FewBursts scene asked (Done spots) before k
come_to_end {scene} {asked} {before} {m} {k} {old} {later} {answer} {batch} come advance is more spots at =
    let ends = subst (λ (v : Advance). Advances old v later) is advance in
    whole (led come later ends.0 batch k ends.1.is.0 more) (Done spots) (ends.1.is.1, at)

pub come_to_limit : {scene : SceneData} {asked before m k : ℕ} {old later : CellStateData} {answer : Advance} {batch : List Action} {limit : Failure} →
    HasCome scene asked before old m → Advances old answer later → answer ≡ Limit batch limit → k ≤ m + 1 → FewBursts scene asked (Passes limit) before k
come_to_limit {scene} {asked} {before} {m} {k} {old} {later} {answer} {batch} {limit} come advance is more =
    let fails = subst (λ (v : Advance). Advances old v later) is advance in
    whole (led come later fails.0 batch k fails.1.is.0 more) (Passes limit) fails.1.is.1
