-- Each scene has a cell run, and a cell state has one.
use Rattle.std.proofs.Common.{◌≡◌, ◌⊎◌, inl, inr, ℕ, zero, suc, ◌+◌, ◌-◌, ◌^◌, ◌<◌, ◌≤◌, List, []}
use Rattle.std.proofs.Common.{◌∷◌, ◌++◌, sym, ap, ◌∙◌, subst, refl, arith, Option, Some, None}
use Rattle.std.proofs.Common.{Result, Ok, Err, slice_get}
use Rattle.std.proofs.lemmas.Option.{none-some, same_Some, slice_get_within}
use Rattle.fixed_motion.specs.declared.rules.Rules.{Rules}
use Rattle.fixed_motion.specs.declared.disk.Disk.{Disk}
use Rattle.fixed_motion.specs.Rules.{IsChecked}
use Rattle.fixed_motion.specs.Motion.{IsInside, IsValidDisk, place_of, mark_at}
use Rattle.event_stamps.specs.declared.Stamp.{Stamp}
use Rattle.event_stamps.specs.Order.{IsInRange, rank, first_stamp}
use Rattle.event_stamps.proofs.Ranks.{rank_less, kind_below}
use Rattle.event_rules.specs.declared.outcome.Outcome.{Outcome}
use Rattle.event_rules.specs.declared.outcome.Outcome.TheVariants.{Done, Limit as Passes}
use Rattle.event_rules.specs.declared.change.Limit.{Limit}
use Rattle.event_rules.specs.Events.{IsWallEvent, IsPairEvent}
use Rattle.event_stamps.specs.Least.{HasNone}
use Rattle.event_rules.specs.Run.{ComesTo, spots_of}
use Rattle.event_rules.specs.declared.change.Change.{Change}
use Rattle.event_rules.proofs.Exists.{stamp_kept}
use Rattle.event_stamps.proofs.Decision.{Decision, both, same_number}
use Rattle.event_stamps.proofs.Least.{least_or_none, one_least}
use Rattle.event_rules.proofs.Decided.{either, restate, at_most, below, inside, wall_event}
use Rattle.event_rules.proofs.Decided.{pair_event}
use Rattle.event_rules.proofs.Valid.{mark_within}
use Rattle.event_rules.proofs.Ranges.{candidate_range, ticks, rounds}
use Rattle.cell_grid.specs.Grid.{GridData, IsGridOf, grid_of, IsAdjacent}
use Rattle.cell_grid.specs.Crossing.{IsInCell, HasLeft, IsCrossTick, IsCrossEvent, cross_stamp}
use Rattle.cell_grid.proofs.Leaving.{leaves_after_last, crosses_later}
use Rattle.region_view.specs.declared.action.Placed.{Placed}
use Rattle.region_view.specs.declared.action.Action.{Action}
use Rattle.region_view.specs.declared.action.Action.TheVariants.{Cross, Hit}
use Rattle.region_view.specs.Placing.{IsNearPair}
use Rattle.region_view.specs.Acting.{stamp_of, ActsAs, action_of, partner_in, hit_of}
use Rattle.cell_sequence.specs.Run.{opened, disks_of, acted, IsStateCandidate, IsCellNext, CellRuns}
use Rattle.cell_sequence.specs.Laws.{OneCellRun, CellStepsBegin, EachSceneCellRuns}
use Rattle.cell_sequence.proofs.Acts.{disk_at, hits_as}
use Rattle.cell_sequence.proofs.Settled.{IsSettled, Tracks, WasIn, in_decides, candidate_is_event}
use Rattle.cell_sequence.proofs.After.{kind_decides, collision_kind}
use Rattle.cell_sequence.proofs.Next.{row_of_candidate, cell_candidate_before_end}
use Rattle.cell_sequence.proofs.Hits.{turn, Turned, crossing_passes, opened_settled}

-- ---- one run
one_result : (rules : Rules) (grid : GridData) (placed : List Placed) (s : Stamp)
    (r q : Result Action Limit) → ActsAs rules grid (slice_get placed) s r →
    ActsAs rules grid (slice_get placed) s q → r ≡ q
one_result rules grid placed s r q h k =
    let same : h.0 ≡ k.0 = same_Some h.0 k.0 (sym h.1 ∙ k.1) in
    h.2 ∙ ap (λ (p : Placed). action_of rules grid s p.disk
    (partner_in s.kind (slice_get placed) s.second) s.kind) same ∙ sym k.2

one_next : (rules : Rules) (grid : GridData) (placed : List Placed) (s t : Stamp)
    (r q : Result Action Limit) → IsCellNext rules grid placed s → IsCellNext rules grid placed t →
    ActsAs rules grid (slice_get placed) s r → ActsAs rules grid (slice_get placed) t q → r ≡ q
one_next rules grid placed s t r q h k hr kq =
    let same : t ≡ s = one_least (IsStateCandidate rules grid placed) t s k h in
    one_result rules grid placed s r q hr
    (subst (λ (v : Stamp). ActsAs rules grid (slice_get placed) v q) same kq)

pub one_action : (rules : Rules) (grid : GridData) (placed : List Placed) (x y : Action) →
    IsCellNext rules grid placed (stamp_of x) → IsCellNext rules grid placed (stamp_of y) →
    ActsAs rules grid (slice_get placed) (stamp_of x) (Ok x) →
    ActsAs rules grid (slice_get placed) (stamp_of y) (Ok y) → x ≡ y
one_action rules grid placed x y h k hr kq =
    let e : ◌≡◌ {A = Result Action Limit} (Ok x) (Ok y) =
    one_next rules grid placed (stamp_of x) (stamp_of y) (Ok x) (Ok y) h k hr kq in cc

pub never_both : (rules : Rules) (grid : GridData) (placed : List Placed) (s : Stamp) (x : Action)
    (l : Limit) → IsCellNext rules grid placed s → IsCellNext rules grid placed (stamp_of x) →
    ActsAs rules grid (slice_get placed) s (Err l) →
    ActsAs rules grid (slice_get placed) (stamp_of x) (Ok x) → ⊥
never_both rules grid placed s x l h k hr kq =
    let e : ◌≡◌ {A = Result Action Limit} (Err l) (Ok x) =
    one_next rules grid placed s (stamp_of x) (Err l) (Ok x) h k hr kq in cc

pub one_cell_run : OneCellRun
one_cell_run rules grid placed [] [] (Done a) (Done b) h k = (refl, ap Done (h.1 ∙ sym k.1))
one_cell_run rules grid placed [] [] (Done a) (Passes l) h k = absurd (h.0 k.0 k.1.0)
one_cell_run rules grid placed [] [] (Passes l) (Done b) h k = absurd (k.0 h.0 h.1.0)
one_cell_run rules grid placed [] [] (Passes l) (Passes m) h k =
    let e : ◌≡◌ {A = Result Action Limit} (Err l) (Err m) =
    one_next rules grid placed h.0 k.0 (Err l) (Err m) h.1 k.1 h.2 k.2 in
    let same : l ≡ m = cc in
    (refl, ap Passes same)
one_cell_run rules grid placed [] (y ∷ ys) (Done a) f h k = absurd (h.0 (stamp_of y) k.0.0)
one_cell_run rules grid placed [] (y ∷ ys) (Passes l) f h k =
    absurd (never_both rules grid placed h.0 y l h.1 k.0 h.2 k.1)
one_cell_run rules grid placed (x ∷ xs) [] e (Done b) h k = absurd (k.0 (stamp_of x) h.0.0)
one_cell_run rules grid placed (x ∷ xs) [] e (Passes l) h k =
    absurd (never_both rules grid placed k.0 x l k.1 h.0 k.2 h.1)
one_cell_run rules grid placed (x ∷ xs) (y ∷ ys) e f h k =
    let q : x ≡ y = one_action rules grid placed x y h.0 k.0 h.1 k.1 in
    let rest : CellRuns rules grid (acted placed x) ys f =
    subst (λ (v : Action). CellRuns rules grid (acted placed v) ys f) (sym q) k.2 in
    let both = one_cell_run rules grid (acted placed x) xs ys e f h.2 rest in
    (let tails : xs ≡ ys = both.0 in cc, both.1)

pub cell_steps_begin : CellStepsBegin
cell_steps_begin rules grid placed later [] ys e h r =
    (ys, refl, subst (λ (v : List Placed). CellRuns rules grid v ys e) (sym h) r)
cell_steps_begin rules grid placed later (x ∷ xs) [] (Done b) h r = absurd (r.0 (stamp_of x) h.0.0)
cell_steps_begin rules grid placed later (x ∷ xs) [] (Passes l) h r =
    absurd (never_both rules grid placed r.0 x l r.1 h.0 r.2 h.1)
cell_steps_begin rules grid placed later (x ∷ xs) (y ∷ ys) e h r =
    let q : x ≡ y = one_action rules grid placed x y h.0 r.0 h.1 r.1 in
    let rest : CellRuns rules grid (acted placed x) ys e =
    subst (λ (v : Action). CellRuns rules grid (acted placed v) ys e) (sym q) r.2 in
    let found = cell_steps_begin rules grid (acted placed x) later xs ys e h.2 rest in
    let tails : ys ≡ xs ++ found.0 = found.1 in
    (found.0, cc, found.2)

-- ---- candidates are decided
-- a crossing of a disk that follows its places comes one tick after it was in its cell
abbrev LeftNow : Rules → GridData → ℕ → Placed → Stamp → ℕ → Type 0
LeftNow rules grid i p s t =
    (p.disk.base ≤ t) × IsInCell rules grid p.disk p.cell (place_of p.disk t)
    × (¬ IsInCell rules grid p.disk p.cell (place_of p.disk (t + 1)))
    × IsInside rules p.disk (place_of p.disk (t + 1))
    × (t + 1 < rules.end) × (s ≡ cross_stamp i p.disk (t + 1))

left_now : (rules : Rules) (grid : GridData) (i : ℕ) (p : Placed) (s : Stamp) (tick : ℕ) →
    Tracks rules grid p tick → IsCrossEvent rules grid i p.disk p.cell s →
    (t : ℕ) × (s.tick ≡ t + 1) × LeftNow rules grid i p s t
left_now rules grid i p s tick track h =
    let from = was_in track.near in
    let later : from.0 < s.tick = crosses_later rules grid p.disk p.cell from.0 s.tick from.2 h.0 in
    let t = s.tick - 1 in
    let e : s.tick ≡ t + 1 = omega arith in
    let le : p.disk.base ≤ t = (let base = from.1 in omega arith) in
    let at = subst (λ (n : ℕ). HasLeft rules grid p.disk p.cell n) e h.0.leaving.left in (
      t,
      e,
      (
        le,
        elim (in_decides rules grid p.disk p.cell (place_of p.disk t)) [
          | inl here ↦ here
          | inr gone ↦ absurd (h.0.leaving.first t le (omega arith) (from_next t at gone))
        ],
        at (t + 1) (omega arith),
        subst (λ (n : ℕ). IsInside rules p.disk (place_of p.disk n)) e h.0.inside,
        (let before = h.1 in omega arith),
        subst (λ (n : ℕ). s ≡ cross_stamp i p.disk n) e h.2,
      ),
    )
  where
    was_in : (IsInCell rules grid p.disk p.cell (place_of p.disk tick) ⊎ WasIn rules grid p tick) →
        (t : ℕ) × (p.disk.base ≤ t) × IsInCell rules grid p.disk p.cell (place_of p.disk t)
    was_in (inl here) = (tick, track.begun, here)
    was_in (inr was) = (was.0, was.2, was.3)

    from_next : (t : ℕ) → HasLeft rules grid p.disk p.cell (t + 1) →
        ¬ IsInCell rules grid p.disk p.cell (place_of p.disk t) → HasLeft rules grid p.disk p.cell t
    from_next t left gone u le = elim (same_or_more t u le) [
      | inl same ↦ subst (λ (n : ℕ). ¬ IsInCell rules grid p.disk p.cell (place_of p.disk n))
          (sym same) gone
      | inr more ↦ left u more
    ]
      where
        same_or_more : (t u : ℕ) → t ≤ u → (u ≡ t) ⊎ (t + 1 ≤ u)
        same_or_more t u le = grind arith

cross_stamp_decides : (s : Stamp) (a : Disk) (tick : ℕ) → Decision (s ≡ cross_stamp s.first a tick)
cross_stamp_decides s a tick = restate
    (λ h i. record {
      tick = h.0.0 i;
      round = h.0.1 i;
      kind = h.1.0 i;
      first = s.first;
      second =
          h.1.1 i;
    })
    (λ e. (
      (ap (λ (v : Stamp). v.tick) e, ap (λ (v : Stamp). v.round) e),
      (ap (λ (v : Stamp). v.kind) e, ap (λ (v : Stamp). v.second) e),
    ))
    (both (both (same_number s.tick tick) (same_number s.round (mark_at a tick)))
    (both (kind_decides s.kind) (same_number s.second 0)))

not_decides : {P : Type 0} → Decision P → Decision (¬ P)
not_decides p = elim p [ inl h ↦ inr (λ n. n h) | inr n ↦ inl n ]

cross_decides : (rules : Rules) (grid : GridData) (p : Placed) (s : Stamp) (tick : ℕ) →
    IsChecked rules → IsGridOf rules grid → IsValidDisk rules p.disk →
    Tracks rules grid p tick → Decision (IsCrossEvent rules grid s.first p.disk p.cell s)
cross_decides rules grid p s tick checked of valid track =
    let t = s.tick - 1 in restate
    (λ h. let e : s.tick ≡ t + 1 = (let some = h.0.0 in omega arith) in (
      subst (λ (n : ℕ). IsCrossTick rules grid p.disk p.cell n) (sym e)
          (leaves_after_last rules grid p.disk p.cell t checked of valid h.0.1 h.1.0.0 h.1.0.1
          h.1.1.0),
      (let lt = h.1.1.1.0 in omega arith),
      subst (λ (n : ℕ). s ≡ cross_stamp s.first p.disk n) (sym e) h.1.1.1.1,
    ))
    (λ h. let left = left_now rules grid s.first p s tick track h in
    let e : left.0 ≡ t = (let is = left.1 in omega arith) in
    let now = subst (λ (n : ℕ). LeftNow rules grid s.first p s n) e left.2 in
    (((let is = left.1 in omega arith), now.0), ((now.1, now.2), (now.3, (now.4, now.5)))))
    (both (both (at_most 1 s.tick) (at_most p.disk.base t))
    (both (both (in_decides rules grid p.disk p.cell (place_of p.disk t))
    (not_decides (in_decides rules grid p.disk p.cell (place_of p.disk (t + 1)))))
    (both (inside rules p.disk (place_of p.disk (t + 1)))
    (both (below (t + 1) rules.end) (cross_stamp_decides s p.disk (t + 1))))))

of_row : (P : Placed → Type 0) (found : Option Placed) →
    ((p : Placed) → found ≡ Some p → Decision (P p)) →
    Decision ((p : Placed) × (found ≡ Some p) × P p)
of_row P None decide = inr (λ h. none-some h.0 h.1)
of_row P (Some a) decide = elim (decide a refl) [
  | inl h ↦ inl (a, refl, h)
  | inr not ↦ inr (λ h. not (subst P (sym (same_Some a h.0 h.1)) h.2))
]

adjacent_decides : (grid : GridData) (a b : ℕ) → Decision (IsAdjacent grid a b)
adjacent_decides grid a b =
    restate (λ h. ((h.0.0, h.0.1), (h.1.0, h.1.1))) (λ h. ((h.0.0, h.0.1), (h.1.0, h.1.1)))
    (both (both (at_most _ _) (at_most _ _)) (both (at_most _ _) (at_most _ _)))

pair_decides : (rules : Rules) (grid : GridData) (placed : List Placed) (s : Stamp) →
    Decision (IsNearPair rules grid (slice_get placed) s)
pair_decides rules grid placed s = both (below s.first s.second)
    (of_row (λ (p : Placed). (q : Placed) × (slice_get placed s.second ≡ Some q)
    × IsAdjacent grid p.cell q.cell × IsPairEvent rules s.first p.disk s.second q.disk s)
    (slice_get placed s.first) (λ p at. restate
    (λ h. (h.0, h.1, h.2.0, h.2.1)) (λ h. (h.0, h.1, (h.2, h.3)))
    (of_row (λ (q : Placed). IsAdjacent grid p.cell q.cell
    × IsPairEvent rules s.first p.disk s.second q.disk s)
    (slice_get placed s.second)
    (λ q at_q. both (adjacent_decides grid p.cell q.cell) (pair_event rules p.disk q.disk s)))))

candidate_decides : (rules : Rules) (grid : GridData) (placed : List Placed) (s t : Stamp) →
    IsChecked rules → IsGridOf rules grid → IsSettled rules grid placed s →
    Decision (IsStateCandidate rules grid placed t)
candidate_decides rules grid placed s t checked of settled =
    either (of_row (λ (p : Placed). IsCrossEvent rules grid t.first p.disk p.cell t)
    (slice_get placed t.first)
    (λ p at. cross_decides rules grid p t s.tick checked of
    (settled.valid.valid t.first p.disk (disk_at placed t.first p at))
    (settled.tracks t.first p at)))
    (either (of_row (λ (p : Placed). IsWallEvent rules t.first p.disk t.second t)
    (slice_get placed t.first) (λ p at. wall_event rules p.disk t))
    (pair_decides rules grid placed t))

-- ---- ranges
pub candidate_in_range : (rules : Rules) (grid : GridData) (placed : List Placed) (s t : Stamp) →
    IsChecked rules → IsSettled rules grid placed s →
    IsStateCandidate rules grid placed t → IsInRange t
candidate_in_range rules grid placed s t checked settled h = elim h [
  | inr event ↦ candidate_range rules (disks_of placed) t checked settled.valid
      (candidate_is_event rules grid placed t (collision_kind rules grid placed t event)
      (inr event))
  | inl cross ↦
      let p = cross.0 in
      let disk = disk_at placed t.first p cross.1 in
      let valid = settled.valid.valid t.first p.disk disk in
      let mark = mark_within p.disk t.tick rules.round_limit valid.mark in
      let limit = rounds rules checked in
      let round : t.round ≡ mark_at p.disk t.tick = ap (λ (v : Stamp). v.round) cross.2.2 in
      let second : t.second ≡ 0 = ap (λ (v : Stamp). v.second) cross.2.2 in
      let within = slice_get_within (disks_of placed) t.first p.disk disk in
      let count = settled.valid.count in
      (omega arith, omega arith, omega arith)
]

candidate_rank : (rules : Rules) (grid : GridData) (placed : List Placed) (s t : Stamp) →
    IsChecked rules → IsSettled rules grid placed s →
    IsStateCandidate rules grid placed t → rank t < 2 ^ 91
candidate_rank rules grid placed s t checked settled h =
    let range = candidate_in_range rules grid placed s t checked settled h in
    let before = cell_candidate_before_end rules grid placed t h in
    let last = ticks rules checked in
    let kind = kind_below t.kind in
    let round = range.0 in let first = range.1 in let second = range.2 in
    omega arith

-- ---- each scene has a cell run
abbrev HasCellRun : Rules → GridData → List Placed → Type 0
HasCellRun rules grid placed = (actions : List Action) × (outcome : Outcome)
    × CellRuns rules grid placed actions outcome

abbrev WorkLeft : Rules → GridData → List Placed → ℕ → Type 0
WorkLeft rules grid placed n = (t : Stamp) → IsStateCandidate rules grid placed t →
    2 ^ 91 ≤ n + rank t

acts_as : (rules : Rules) (grid : GridData) (placed : List Placed) (s : Stamp) →
    IsStateCandidate rules grid placed s → (r : Result Action Limit)
    × ActsAs rules grid (slice_get placed) s r
acts_as rules grid placed s h =
    let row = row_of_candidate rules grid placed s h in (
      action_of rules grid s row.0.disk (partner_in s.kind (slice_get placed) s.second) s.kind,
      (row.0, row.1, refl),
    )

-- the action of the next event has its stamp
pub action_stamp : (rules : Rules) (grid : GridData) (placed : List Placed) (s t : Stamp)
    (x : Action) → IsChecked rules → IsGridOf rules grid → IsSettled rules grid placed s →
    IsCellNext rules grid placed t → ActsAs rules grid (slice_get placed) t (Ok x) → t ≡ stamp_of x
action_stamp rules grid placed s t x checked of settled next acts = elim (kind_decides t.kind) [
  | inl kind ↦ let pass = crossing_passes rules grid placed s t
      (Ok x) checked of settled next acts kind in of_cross pass.1
  | inr collision ↦ let acted_as = hits_as rules grid placed t (Ok x) collision acts in
      by_result acted_as.0 acted_as.1 acted_as.2
]
  where
    of_cross : {cell : ℕ} → ◌≡◌ {A = Result Action Limit} (Ok x) (Ok (Cross t cell)) →
        t ≡ stamp_of x
    of_cross {cell = cell} e = let same : x ≡ Cross t cell = cc in sym (ap stamp_of same)

    by_result : (q : Result Change Limit) → ◌≡◌ {A = Result Action Limit} (Ok x) (hit_of q) →
        ComesTo rules (disks_of placed) t q → t ≡ stamp_of x
    by_result (Ok c) e comes = let same : x ≡ Hit c = cc in
        stamp_kept rules (disks_of placed) t c comes ∙ sym (ap stamp_of same)
    by_result (Err limit) e comes = cc

-- after an action its stamp settles the state
pub settled_after : (rules : Rules) (grid : GridData) (placed : List Placed) (x : Action) →
    Turned rules grid placed x → IsSettled rules grid (acted placed x) (stamp_of x)
settled_after rules grid placed (Cross t cell) turned = turned
settled_after rules grid placed (Hit c) turned = turned.2

after_next : (n : ℕ) (rules : Rules) (grid : GridData) (placed : List Placed) (s t : Stamp)
    (r : Result Action Limit) → IsChecked rules → IsGridOf rules grid →
    IsSettled rules grid placed s →
    WorkLeft rules grid placed (suc n) →
    ((later : List Placed) (u : Stamp) → IsSettled rules grid later u →
    WorkLeft rules grid later n → HasCellRun rules grid later) →
    IsCellNext rules grid placed t → ActsAs rules grid (slice_get placed) t r →
    HasCellRun rules grid placed
after_next n rules grid placed s t (Err limit) checked of settled work runs next acts =
    ([], Passes limit, (t, next, acts))
after_next n rules grid placed s t (Ok x) checked of settled work runs next acts =
    let kept = action_stamp rules grid placed s t x checked of settled next acts in
    let here : IsCellNext rules grid placed (stamp_of x) =
    subst (IsCellNext rules grid placed) kept next in
    let own : ActsAs rules grid (slice_get placed) (stamp_of x) (Ok x) =
    subst (λ (v : Stamp). ActsAs rules grid (slice_get placed) v (Ok x)) kept acts in
    let later = settled_after rules grid placed x
    (turn rules grid placed s x checked of settled here own) in
    let less : 2 ^ 91 ≤ suc n + rank (stamp_of x) = work (stamp_of x) here.0 in
    let rest = runs (acted placed x) (stamp_of x) later (λ u h.
    let more = rank_less (stamp_of x) u
    (candidate_in_range rules grid placed s (stamp_of x) checked settled here.0)
    (candidate_in_range rules grid (acted placed x) (stamp_of x) u checked later h)
    (later.after u h) in omega arith) in
    (x ∷ rest.0, rest.1, (here, own, rest.2))

next_or_none : (rules : Rules) (grid : GridData) (placed : List Placed) (s : Stamp) →
    IsChecked rules → IsGridOf rules grid → IsSettled rules grid placed s →
    ((t : Stamp) × IsCellNext rules grid placed t) ⊎ HasNone (IsStateCandidate rules grid placed)
next_or_none rules grid placed s checked of settled =
    least_or_none (IsStateCandidate rules grid placed) (2 ^ 91)
    (λ t. candidate_decides rules grid placed s t checked of settled)
    (λ t h. candidate_in_range rules grid placed s t checked settled h)
    (λ t h. candidate_rank rules grid placed s t checked settled h)

without_work : (rules : Rules) (grid : GridData) (placed : List Placed) (s t : Stamp) →
    IsChecked rules → IsSettled rules grid placed s → WorkLeft rules grid placed zero →
    ¬ IsCellNext rules grid placed t
without_work rules grid placed s t checked settled work next =
    let most : rank t < 2 ^ 91 = candidate_rank rules grid placed s t checked settled next.0 in
    let least : 2 ^ 91 ≤ zero + rank t = work t next.0 in
    omega arith

run_of : (n : ℕ) (rules : Rules) (grid : GridData) (placed : List Placed) (s : Stamp) →
    IsChecked rules → IsGridOf rules grid → IsSettled rules grid placed s →
    WorkLeft rules grid placed n → HasCellRun rules grid placed
run_of zero rules grid placed s checked of settled work =
    elim (next_or_none rules grid placed s checked of settled) [
      | inl next ↦ absurd (without_work rules grid placed s next.0 checked settled work next.1)
      | inr none ↦ ([], Done (spots_of rules.end (disks_of placed)), (none, refl))
    ]
run_of (suc n) rules grid placed s checked of settled work =
    elim (next_or_none rules grid placed s checked of settled) [
      | inl next ↦
          let acts = acts_as rules grid placed next.0 next.1.0 in
          after_next n rules grid placed s next.0 acts.0 checked of settled work
          (λ later u ok left. run_of n rules grid later u checked of ok left) next.1 acts.1
      | inr none ↦ ([], Done (spots_of rules.end (disks_of placed)), (none, refl))
    ]

pub each_scene_cell_runs : EachSceneCellRuns
each_scene_cell_runs scene asked valid some =
    let grid = grid_of scene.rules asked in
    let of : IsGridOf scene.rules (grid_of scene.rules asked) = (asked, some, refl) in
    run_of (2 ^ 91) scene.rules grid (opened grid scene.disks) first_stamp valid.rules of
    (opened_settled grid scene valid of) (λ t h. omega arith)
