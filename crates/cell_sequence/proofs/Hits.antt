-- The collisions of the cell run are the changes of the sequential run.
use Rattle.std.proofs.Common.{◌≡◌, ◌≢◌, inl, inr, ℕ, List, [], ◌∷◌, sym, ap, ◌∙◌, subst, refl}
use Rattle.std.proofs.Common.{arith, Some, Result, Ok, Err, slice_get}
use Rattle.std.proofs.lemmas.Int.{ints}
use Rattle.std.proofs.lemmas.Option.{same_Some}
use Rattle.fixed_motion.specs.declared.rules.Rules.{Rules}
use Rattle.fixed_motion.specs.declared.disk.Disk.{Disk}
use Rattle.fixed_motion.specs.Rules.{IsChecked}
use Rattle.fixed_motion.specs.Motion.{IsInside, place_of}
use Rattle.fixed_motion.specs.Scene.{SceneData, IsValidScene}
use Rattle.event_stamps.specs.declared.Stamp.{Stamp}
use Rattle.event_stamps.specs.declared.Kind.TheVariants.{Cross as Crossing}
use Rattle.event_stamps.specs.Order.{first_stamp, end_stamp}
use Rattle.event_stamps.proofs.StampOrder.{before_tick}
use Rattle.event_rules.specs.declared.change.Change.{Change}
use Rattle.event_rules.specs.declared.change.Limit.{Limit}
use Rattle.event_rules.specs.declared.outcome.Outcome.{Outcome}
use Rattle.event_rules.specs.declared.outcome.Outcome.TheVariants.{Done, Limit as Passes}
use Rattle.event_rules.specs.Run.{Runs, Steps, IsNext, ComesTo, IsValidState}
use Rattle.event_rules.proofs.OneTick.{place_at_base}
use Rattle.event_rules.proofs.Rise.{candidate_after_first}
use Rattle.cell_grid.specs.Grid.{GridData, grid_of, cell_at, IsGridOf}
use Rattle.cell_grid.specs.Crossing.{IsInCell}
use Rattle.cell_grid.proofs.Leaving.{crosses_later}
use Rattle.region_view.specs.declared.action.Placed.{Placed}
use Rattle.region_view.specs.declared.action.Action.{Action}
use Rattle.region_view.specs.declared.action.Action.TheVariants.{Cross, Hit}
use Rattle.region_view.specs.Acting.{stamp_of, ActsAs, hit_of}
use Rattle.cell_sequence.specs.Run.{opened, placed_at, disks_of, acted, IsCellNext, CellSteps}
use Rattle.cell_sequence.specs.Run.{CellRuns, hits}
use Rattle.cell_sequence.specs.Laws.{HitsAreChanges, HitsAreSteps, ActionsRise, ActionsRiseFrom}
use Rattle.cell_sequence.specs.Laws.{ActionsEndBefore}
use Rattle.cell_sequence.proofs.Lists.{get_map}
use Rattle.cell_sequence.proofs.Acts.{hits_as, crosses_as, cross_keeps, hit_changes}
use Rattle.cell_sequence.proofs.Settled.{IsSettled, candidate_is_event}
use Rattle.cell_sequence.proofs.Next.{CrossesOnce, crosses_once, tracks_at_next, next_is_next}
use Rattle.cell_sequence.proofs.Next.{none_left, cell_candidate_before_end}
use Rattle.cell_sequence.proofs.After.{settled_cross, settled_hit, kind_decides, collision_kind}

-- ---- one action
-- what is known of the next action of a settled state
abbrev pub Turned : Rules → GridData → List Placed → Action → Type 0
Turned rules grid placed (Cross t cell) = IsSettled rules grid (acted placed (Cross t cell)) t
Turned rules grid placed (Hit c) =
    IsNext rules (disks_of placed) c.stamp × ComesTo rules (disks_of placed) c.stamp (Ok c)
    × IsSettled rules grid (acted placed (Hit c)) c.stamp

some_rounds : (rules : Rules) → IsChecked rules → 0 ≢ rules.round_limit
some_rounds rules checked e = let least = checked.round_limit.0 in omega (arith, ints)

cross_of : (rules : Rules) (grid : GridData) (placed : List Placed) (s t : Stamp) →
    IsChecked rules → IsGridOf rules grid → IsSettled rules grid placed s →
    IsCellNext rules grid placed t → t.kind ≡ Crossing → CrossesOnce rules grid placed t
cross_of rules grid placed s t checked of settled next kind =
    crosses_once rules grid placed t checked of
    (tracks_at_next rules grid placed s t checked of settled next)
    settled.valid
    (elim next.0 [
      | inl cross ↦ cross
      | inr event ↦ absurd (collision_kind rules grid placed t event kind)
    ])

-- a crossing fails no limit
pub crossing_passes : (rules : Rules) (grid : GridData) (placed : List Placed) (s t : Stamp)
    (r : Result Action Limit) → IsChecked rules → IsGridOf rules grid →
    IsSettled rules grid placed s → IsCellNext rules grid placed t →
    ActsAs rules grid (slice_get placed) t r → t.kind ≡ Crossing →
    (once : CrossesOnce rules grid placed t)
    × (r ≡ Ok (Cross t (cell_at grid (place_of once.row.disk t.tick))))
crossing_passes rules grid placed s t r checked of settled next acts kind =
    let once = cross_of rules grid placed s t checked of settled next kind in
    let acted_as = crosses_as rules grid placed t r kind
    (λ e. some_rounds rules checked (sym once.round ∙ e)) acts in
    let same : acted_as.0 ≡ once.row = same_Some acted_as.0 once.row (sym acted_as.1 ∙ once.at) in (
      once,
      acted_as.2 ∙ ap (λ (p : Placed). Ok
          (Cross t (cell_at grid (place_of p.disk t.tick)))) same,
    )

pub turn : (rules : Rules) (grid : GridData) (placed : List Placed) (s : Stamp) (x : Action) →
    IsChecked rules → IsGridOf rules grid → IsSettled rules grid placed s →
    IsCellNext rules grid placed (stamp_of x) →
    ActsAs rules grid (slice_get placed) (stamp_of x) (Ok x) → Turned rules grid placed x
turn rules grid placed s x checked of settled next acts = elim (kind_decides (stamp_of x).kind) [
  | inl kind ↦
      let t = stamp_of x in
      let pass = crossing_passes rules grid placed s t (Ok x) checked of settled next acts kind in
      let is : x ≡ Cross t (cell_at grid (place_of pass.0.row.disk t.tick)) = same_Ok x _ pass.1 in
      subst (Turned rules grid placed) (sym is)
      (settled_cross rules grid placed s t checked of settled next kind pass.0)
  | inr collision ↦
      let acted_as = hits_as rules grid placed (stamp_of x) (Ok x) collision acts in
      by_result acted_as.0 acted_as.1 acted_as.2 collision
]
  where
    same_Ok : (a b : Action) → ◌≡◌ {A = Result Action Limit} (Ok a) (Ok b) → a ≡ b
    same_Ok a b e = cc

    by_result : (q : Result Change Limit) → ◌≡◌ {A = Result Action Limit} (Ok x) (hit_of q) →
        ComesTo rules (disks_of placed) (stamp_of x) q →
        ¬ ((stamp_of x).kind ≡ Crossing) → Turned rules grid placed x
    by_result (Ok c) e comes collision =
        let is : x ≡ Hit c = same_Ok x (Hit c) e in
        let stamp : stamp_of x ≡ c.stamp = ap stamp_of is in
        let here : IsCellNext rules grid placed c.stamp =
        subst (IsCellNext rules grid placed) stamp next in
        let not : ¬ (c.stamp.kind ≡ Crossing) =
        subst (λ (v : Stamp). ¬ (v.kind ≡ Crossing)) stamp collision in
        let event = next_is_next rules grid placed s c.stamp checked of settled here not in
        let own : ComesTo rules (disks_of placed) c.stamp (Ok c) =
        subst (λ (v : Stamp). ComesTo rules (disks_of placed) v (Ok c)) stamp comes in
        subst (Turned rules grid placed) (sym is)
        (event, own, settled_hit rules grid placed s c checked of settled here not event own)
    by_result (Err limit) e comes collision = cc

-- ---- runs
hits_run : (rules : Rules) (grid : GridData) (placed : List Placed) (s : Stamp)
    (xs : List Action) (outcome : Outcome) → IsChecked rules → IsGridOf rules grid →
    IsSettled rules grid placed s → CellRuns rules grid placed xs outcome →
    Runs rules (disks_of placed) (hits xs) outcome
hits_run rules grid placed s [] (Done spots) checked of settled run =
    (none_left rules grid placed s checked of settled run.0, run.1)
hits_run rules grid placed s [] (Passes limit) checked of settled run =
    elim (kind_decides run.0.kind) [
      | inl kind ↦ absurd (failed
          (crossing_passes rules grid placed s run.0 (Err limit) checked of settled run.1 run.2 kind).1)
      | inr collision ↦
          let acted_as = hits_as rules grid placed run.0 (Err limit) collision run.2 in (
            run.0,
            next_is_next rules grid placed s run.0 checked of settled run.1 collision,
            by_result acted_as.0 acted_as.1 acted_as.2,
          )
    ]
  where
    failed : {x : Action} → ◌≡◌ {A = Result Action Limit} (Err limit) (Ok x) → ⊥
    failed e = cc

    by_result : (q : Result Change Limit) → ◌≡◌ {A = Result Action Limit} (Err limit) (hit_of q) →
        ComesTo rules (disks_of placed) run.0 q → ComesTo rules (disks_of placed) run.0 (Err limit)
    by_result (Ok c) e comes = cc
    by_result (Err other) e comes = let same : other ≡ limit = cc in
        subst (λ (l : Limit). ComesTo rules (disks_of placed) run.0 (Err l)) same comes
hits_run rules grid placed s (Cross t cell ∷ xs) outcome checked of settled run =
    let settled_later = turn rules grid placed s (Cross t cell) checked of settled run.0 run.1 in
    subst (λ (disks : List Disk). Runs rules disks (hits xs) outcome) (cross_keeps placed t cell)
    (hits_run rules grid (acted placed (Cross t cell)) t xs outcome checked of settled_later run.2)
hits_run rules grid placed s (Hit c ∷ xs) outcome checked of settled run =
    let turned = turn rules grid placed s (Hit c) checked of settled run.0 run.1 in (
      turned.0,
      turned.1,
      subst (λ (disks : List Disk). Runs rules disks (hits xs) outcome) (hit_changes placed c)
          (hits_run rules grid (acted placed (Hit c)) c.stamp xs outcome checked of turned.2 run.2),
    )

hits_steps : (rules : Rules) (grid : GridData) (placed later : List Placed) (s : Stamp)
    (xs : List Action) → IsChecked rules → IsGridOf rules grid →
    IsSettled rules grid placed s → CellSteps rules grid placed xs later →
    Steps rules (disks_of placed) (hits xs) (disks_of later)
hits_steps rules grid placed later s [] checked of settled steps = ap disks_of steps
hits_steps rules grid placed later s (Cross t cell ∷ xs) checked of settled steps =
    let settled_later = turn rules grid placed s
    (Cross t cell) checked of settled steps.0 steps.1 in
    subst (λ (disks : List Disk). Steps rules disks (hits xs) (disks_of later))
    (cross_keeps placed t cell)
    (hits_steps rules grid (acted placed
    (Cross t cell)) later t xs checked of settled_later steps.2)
hits_steps rules grid placed later s (Hit c ∷ xs) checked of settled steps =
    let turned = turn rules grid placed s (Hit c) checked of settled steps.0 steps.1 in (
      turned.0,
      turned.1,
      subst (λ (disks : List Disk). Steps rules disks (hits xs) (disks_of later))
          (hit_changes placed c)
          (hits_steps rules grid (acted placed
          (Hit c)) later c.stamp xs checked of turned.2 steps.2),
    )

-- stamps rise
pub actions_rise : (rules : Rules) (grid : GridData) (placed : List Placed) (s : Stamp)
    (xs : List Action) (outcome : Outcome) → IsChecked rules → IsGridOf rules grid →
    IsSettled rules grid placed s → CellRuns rules grid placed xs outcome → ActionsRiseFrom s xs
    × ActionsEndBefore (end_stamp rules.end) xs
actions_rise rules grid placed s [] outcome checked of settled run = (tt, tt)
actions_rise rules grid placed s (Cross t cell ∷ xs) outcome checked of settled run =
    let settled_later = turn rules grid placed s (Cross t cell) checked of settled run.0 run.1 in
    let rest = actions_rise rules grid
    (acted placed (Cross t cell)) t xs outcome checked of settled_later run.2 in (
      (settled.after t run.0.0, rest.0),
      (
        before_tick t (end_stamp rules.end)
            (cell_candidate_before_end rules grid placed t run.0.0),
        rest.1,
      ),
    )
actions_rise rules grid placed s (Hit c ∷ xs) outcome checked of settled run =
    let turned = turn rules grid placed s (Hit c) checked of settled run.0 run.1 in
    let rest = actions_rise rules grid
    (acted placed (Hit c)) c.stamp xs outcome checked of turned.2 run.2 in (
      (settled.after c.stamp run.0.0, rest.0),
      (
        before_tick c.stamp (end_stamp rules.end)
            (cell_candidate_before_end rules grid placed c.stamp run.0.0),
        rest.1,
      ),
    )

-- ---- the start
disks_opened : (grid : GridData) (disks : List Disk) → disks_of (opened grid disks) ≡ disks
disks_opened grid [] = refl
disks_opened grid (a ∷ disks) = ap (λ xs. a ∷ xs) (disks_opened grid disks)

opened_in : (grid : GridData) (scene : SceneData) → IsValidScene scene → (i : ℕ) (p : Placed) →
    slice_get (opened grid scene.disks) i ≡ Some p →
    (p.disk.base ≡ 0) × IsInCell scene.rules grid p.disk p.cell (place_of p.disk 0)
opened_in grid scene valid i p at =
    let row = get_map (placed_at grid) scene.disks i p at in
    let start = valid.disks i row.0 row.1 in
    let place = place_at_base row.0 0 (omega arith) in
    subst (λ (q : Placed). (q.disk.base ≡ 0)
    × IsInCell scene.rules grid q.disk q.cell (place_of q.disk 0)) row.2 (
      start.base,
      (
        subst (IsInside scene.rules row.0) (sym place) start.valid.centre,
        ap
            (cell_at grid) place,
      ),
    )

pub opened_settled : (grid : GridData) (scene : SceneData) → IsValidScene scene →
    IsGridOf scene.rules grid → IsSettled scene.rules grid (opened grid scene.disks) first_stamp
opened_settled grid scene valid of =
    let same = disks_opened grid scene.disks in
    record {
      valid = subst (IsValidState scene.rules) (sym same)
          (record { count = valid.count; valid = λ i a at. (valid.disks i a at).valid });
      tracks = λ i p at. let start = opened_in grid scene valid i p at in
          record {
            begun = (let e = start.0 in omega arith);
            inside = start.1.0;
            near =
                inl start.1;
          };
      after = λ u h. elim h [
        | inl cross ↦
            let start = opened_in grid scene valid u.first cross.0 cross.1 in
            before_tick first_stamp u
            (crosses_later scene.rules grid cross.0.disk cross.0.cell 0 u.tick start.1
            cross.2.0)
        | inr event ↦ candidate_after_first scene.rules (disks_of (opened grid scene.disks)) u
            (candidate_is_event scene.rules grid (opened grid scene.disks) u
            (collision_kind scene.rules grid (opened grid scene.disks) u event) (inr event))
      ];
      events_after = candidate_after_first scene.rules (disks_of (opened grid scene.disks));
    }

-- ---- the laws
pub hits_are_changes : HitsAreChanges
hits_are_changes scene asked actions outcome valid some run =
    let grid = grid_of scene.rules asked in
    let of : IsGridOf scene.rules (grid_of scene.rules asked) = (asked, some, refl) in
    subst (λ (disks : List Disk). Runs scene.rules disks (hits actions) outcome)
    (disks_opened grid scene.disks)
    (hits_run scene.rules grid (opened grid scene.disks) first_stamp actions outcome valid.rules of
    (opened_settled grid scene valid of) run)

pub hits_are_steps : HitsAreSteps
hits_are_steps scene asked actions later valid some steps =
    let grid = grid_of scene.rules asked in
    let of : IsGridOf scene.rules (grid_of scene.rules asked) = (asked, some, refl) in
    subst (λ (disks : List Disk). Steps scene.rules disks (hits actions) (disks_of later))
    (disks_opened grid scene.disks)
    (hits_steps scene.rules grid (opened grid scene.disks) later first_stamp actions valid.rules of
    (opened_settled grid scene valid of) steps)

pub stamps_rise : ActionsRise
stamps_rise scene asked actions outcome valid some run =
    let grid = grid_of scene.rules asked in
    let of : IsGridOf scene.rules (grid_of scene.rules asked) = (asked, some, refl) in
    actions_rise scene.rules grid
    (opened grid scene.disks) first_stamp actions outcome valid.rules of
    (opened_settled grid scene valid of) run
