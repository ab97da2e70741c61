-- The state and the regions after a commit.
use Rattle.std.proofs.Common.{◌≡◌, inl, inr, ◌<◌, List, [], ◌∷◌, map, sym, ap, ◌∙◌, subst, refl}
use Rattle.std.specs.Prelude.{Result, Ok, Err, IfOk, OnOk, option_map}
use Rattle.std.proofs.lemmas.List.{length-map}
use Rattle.std.proofs.lemmas.Option.{same_Some, slice_get_within, slice_get-map}
use Rattle.fixed_motion.specs.declared.rules.Rules.{Rules}
use Rattle.event_stamps.specs.declared.Stamp.{Stamp}
use Rattle.event_stamps.specs.Order.{Before}
use Rattle.event_stamps.proofs.StampOrder.{before_trans, not_before_itself}
use Rattle.cell_grid.specs.Grid.{GridData, IsRegion}
use Rattle.region_view.specs.declared.action.Action.{Action}
use Rattle.region_view.specs.Acting.{stamp_of}
use Rattle.region_messages.specs.Trails.{IsAmong}
use Rattle.region_messages.proofs.Order.{before_not_before}
use Rattle.cell_sequence.specs.Run.{CellSteps}
use Rattle.cell_sequence.specs.State.{CellStateData, IsCellState, followed, followed_by, HasNoneBelow}
use Rattle.cell_sequence.specs.State.{raised as raised_state}
use Rattle.local_run.specs.Opening.{RegionData, home_of}
use Rattle.local_run.specs.Raising.{raised_region as raised_region}
use Rattle.local_run.specs.Raising.{raised_run}
use Rattle.local_run.specs.Standing.{StandsOn}
use Rattle.local_run.proofs.InTurn.{waiting_in_turn}
use Rattle.commit_horizon.specs.Horizon.{runs_of, IsBound, IsHorizon, AllStand, AllKept}
use Rattle.commit_horizon.specs.Commits.{Commits}
use Rattle.commit_horizon.specs.Laws.{IsNextMerged}
use Rattle.commit_horizon.specs.declared.cutting.Final.{Final}
use Rattle.commit_horizon.specs.Cutting.{FinalMade}
use Rattle.commit_horizon.specs.Following.{MayFollow}
use Rattle.commit_horizon.proofs.Merging.{Merges}
use Rattle.commit_horizon.specs.Raising.{MayRise, AllMayRise}
use Rattle.commit_horizon.specs.Telling.{IsStateOf}
use Rattle.commit_horizon.proofs.Standing.{region_on, region_at, region_is, are_standing}

-- ---- the regions
-- what waits is offered, so it isn't before a bound, or the bound is the floor
pub may_rise : (state : CellStateData) (regions : List RegionData) (h : Stamp) → AllStand state regions →
    AllKept regions → IsBound state (runs_of regions) h → AllMayRise h regions
may_rise state regions h stand kept bound k region at =
    let is = region_is state regions k region stand at in
    let run = runs_of regions k in
    let standing = are_standing state regions stand kept k is.0 in
    subst (MayRise h) is.1 (record {
      not_lowered = bound.floor;
      in_time = bound.end;
      none_waiting = λ s waits less. elim (bound.due k s is.0 (inr waits)) [
        | inl not ↦ not less
        | inr late ↦ subst (λ (f : Stamp). ¬ Before s f) standing.floor
            (waiting_in_turn (home_of state k) run s standing.right waits).0
            (before_not_before s state.floor h less late)
      ];
    })

-- ---- the state
pub floor_not_after : (xs : List Action) (state : CellStateData) (h : Stamp) → ¬ Before h state.floor →
    ((x : Action) → IsAmong x xs → Before (stamp_of x) h) → ¬ Before h (followed_by state xs).floor
floor_not_after [] state h floor before = floor
floor_not_after (x ∷ xs) state h floor before = floor_not_after xs (followed state x) h
    (λ less. not_before_itself h (before_trans h (stamp_of x) h less (before x (inl refl))))
    (λ y among. before y (inr among))

pub same_rules : (xs : List Action) (state : CellStateData) → (followed_by state xs).rules ≡ state.rules
same_rules [] state = refl
same_rules (x ∷ xs) state = same_rules xs (followed state x)

same_grid : (xs : List Action) (state : CellStateData) → (followed_by state xs).grid ≡ state.grid
same_grid [] state = refl
same_grid (x ∷ xs) state = same_grid xs (followed state x)

-- ---- both
stand_after : (old : CellStateData) (regions : List RegionData) (h : Stamp) (xs : List Action) →
    AllStand old regions → IsNextMerged old (runs_of regions) h xs →
    AllStand (raised_state h (followed_by old xs)) (map (raised_region h) regions)
stand_after old regions h xs stand next = record {
  count = length-map regions (raised_region h) ∙ stand.count
      ∙ ap (λ (grid : GridData). grid.regions) (sym (same_grid xs old));
  each = λ k region at.
      let within : IsRegion old.grid k = subst (λ n. k < n) (length-map regions (raised_region h) ∙ stand.count)
      (slice_get_within (map (raised_region h) regions) k region at) in
      let there = slice_get-map (raised_region h) regions k
      ∙ ap (option_map (raised_region h)) (region_at old regions k stand within) in
      subst (StandsOn (raised_state h (followed_by old xs)) k)
      (same_Some (raised_region h (region_on old k (runs_of regions k))) region (sym there ∙ at)) (record {
        run = raised_run h (runs_of regions k);
        alive = refl;
        number = refl;
        rules = sym (same_rules xs old);
        grid = sym (same_grid xs old);
        floor = refl;
        base = next.views k within;
      });
}

pub commits : (old : CellStateData) (regions : List RegionData) (h : Stamp) (xs : List Action)
    (mid new : CellStateData) (left : List RegionData) → AllStand old regions →
    IsHorizon old (runs_of regions) h → Merges old regions h xs mid →
    new ≡ raised_state h mid → left ≡ map (raised_region h) regions → Commits old regions xs new left
commits old regions h xs mid new left stand horizon merges is_new is_left =
    let whole : new ≡ raised_state h (followed_by old xs)
    = is_new ∙ ap (raised_state h) merges.follows in
    record {
      horizon = h;
      is_horizon = horizon;
      merged = merges.merged;
      steps = subst (λ (v : CellStateData). CellSteps old.rules old.grid old.placed xs v.placed) (sym whole)
          merges.next.steps;
      none_below = subst (λ (v : CellStateData). HasNoneBelow v h) (sym whole) merges.next.none_below;
      state = whole;
      regions = is_left;
      stand = subst (λ (v : CellStateData). AllStand v left) (sym whole)
          (subst (AllStand (raised_state h (followed_by old xs))) (sym is_left)
          (stand_after old regions h xs stand merges.next));
    }

-- the state may go on by what was committed
pub may_follow : (old new : CellStateData) (given left : List RegionData) (batch : List Action) (floor : Stamp)
    (commits : Commits old given batch new left) → commits.horizon ≡ floor → MayFollow old batch floor
may_follow old new given left batch floor commits is = subst (MayFollow old batch) is (record {
  steps = subst (λ (v : CellStateData). CellSteps old.rules old.grid old.placed batch v.placed) commits.state
      commits.steps;
  not_lowered = floor_not_after batch old commits.horizon commits.is_horizon.bound.floor
      (λ x among. (commits.merged.are x among).before);
  in_time = commits.is_horizon.bound.end;
  none_below = subst (λ (v : CellStateData). HasNoneBelow v commits.horizon) commits.state commits.none_below;
})

-- ---- what a commit makes final
module _ (old : CellStateData) (given left : List RegionData) (made : Final) (batch : List Action)
    (final : FinalMade old given made batch left) where
  horizon_is : final.commits.horizon ≡ made.floor
  horizon_is = sym (ap (λ (v : CellStateData). v.floor) final.commits.state) ∙ final.floor

  -- its floor is the horizon
  pub final_is : final.new ≡ raised_state made.floor (followed_by old batch)
  final_is = final.commits.state ∙ ap (λ (h : Stamp). raised_state h (followed_by old batch)) horizon_is

  pub may_follow_final : MayFollow old batch made.floor
  may_follow_final = may_follow old final.new given left batch made.floor final.commits horizon_is

  -- a state that goes on by it has committed
  followed_commits : (told : List Action) (new : CellStateData) → told ≡ batch →
      new ≡ raised_state made.floor (followed_by old batch) → Commits old given told new left
  followed_commits told new same is = subst (λ (v : List Action). Commits old given v new left) (sym same)
      (subst (λ (v : CellStateData). Commits old given batch v left) (final_is ∙ sym is) final.commits)

  pub commits_if_ok : {E : Type 0} (r : Result (List Action) E) (new : CellStateData) →
      IfOk r (λ told. told ≡ batch) → OnOk r (new ≡ raised_state made.floor (followed_by old batch)) →
      IfOk r (λ told. Commits old given told new left)
  commits_if_ok (Ok told) new same is = followed_commits told new same is
  commits_if_ok (Err e) new same is = tt

-- a state, as it is read, is one on which its regions stand
pub state_is_of : (old read : CellStateData) (rules : Rules) (regions : List RegionData) → read ≡ old →
    IsCellState read → rules ≡ read.rules → AllStand old regions → IsStateOf rules regions old
state_is_of old read rules regions same is rules_are stand = record {
  is = subst IsCellState same is;
  rules_are = sym (rules_are ∙ ap (λ (v : CellStateData). v.rules) same);
  stand = stand;
}
