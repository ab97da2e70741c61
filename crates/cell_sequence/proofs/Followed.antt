-- Cell states at the beginning, and after an action.
use Rattle.std.proofs.Common.{◌≡◌, ◌⊎◌, inl, inr, ℕ, suc, ◌<◌, ◌≤◌, List, [], ◌∷◌, ◌++◌}
use Rattle.std.proofs.Common.{length, get_or, slice_get, sym, ap, ◌∙◌, subst, refl, arith}
use Rattle.std.proofs.Common.{Option, Some, None, Result, Ok}
use Rattle.std.specs.Prelude.{IfSome, IsSome}
use Rattle.std.proofs.lemmas.Option.{none-some, same_Some, slice_get_within, slice_get-get_or}
use Rattle.fixed_motion.specs.declared.rules.Rules.{Rules}
use Rattle.fixed_motion.specs.declared.disk.Disk.{Disk}
use Rattle.fixed_motion.specs.Scene.{SceneData, IsValidScene}
use Rattle.fixed_motion.proofs.Sizes.{inside_in_box}
use Rattle.event_stamps.specs.declared.Stamp.{Stamp}
use Rattle.event_stamps.specs.declared.Kind.{Kind}
use Rattle.event_stamps.specs.declared.Kind.TheVariants.{Cross as Crossing, Wall, Pair}
use Rattle.event_stamps.specs.Order.{Before, end_stamp}
use Rattle.event_stamps.specs.Least.{IsLeastOf}
use Rattle.event_stamps.proofs.StampOrder.{before_decides, same_stamp, before_trans, before_tick, not_before_itself}
use Rattle.event_stamps.proofs.StampOrder.{none_before_first}
use Rattle.event_rules.specs.Events.{IsWallEvent, IsPairEvent}
use Rattle.event_rules.specs.declared.change.Limit.{Limit}
use Rattle.event_rules.proofs.Rise.{candidate_kind}
use Rattle.cell_grid.specs.Grid.{GridData, IsAsked}
use Rattle.cell_grid.specs.Crossing.{IsCrossEvent}
use Rattle.region_view.specs.declared.action.Placed.{Placed}
use Rattle.region_view.specs.declared.action.Action.{Action}
use Rattle.region_view.specs.declared.action.Action.TheVariants.{Cross, Hit}
use Rattle.region_view.specs.Acting.{stamp_of, action_of, partner_in, disk_in}
use Rattle.region_view.specs.Events.{IsEventBy}
use Rattle.region_view.specs.Placing.{IsNearPair}
use Rattle.region_view.proofs.Seen.{no_row}
use Rattle.cell_sequence.specs.Run.{disks_of, acted, IsStateCandidate, CellSteps}
use Rattle.cell_sequence.specs.State.{CellStateData, IsCellState, IsNotBefore, HasNoneBelow, last_stamp, opening_state, followed, raised}
use Rattle.cell_sequence.specs.State.{HasRows, HasNext, IsCandidateOf, IsNextOf, ComesToInState, AreInBox}
use Rattle.cell_sequence.proofs.After.{no_crossing}
use Rattle.cell_sequence.proofs.Next.{row_of_candidate, cell_candidate_before_end}
use Rattle.cell_sequence.proofs.Hits.{turn}
use Rattle.cell_sequence.proofs.Exists.{settled_after, action_stamp}
use Rattle.cell_sequence.proofs.Joins.{steps_join}
use Rattle.cell_sequence.proofs.Orderly.{known, pair_of, cell_states_are_orderly}

-- ---- the start
pub start_is : (scene : SceneData) (asked : ℕ) → IsValidScene scene → IsAsked asked →
    IsCellState (opening_state scene asked)
start_is scene asked valid some = record {
  scene = record {
    rules = valid.rules;
    count = valid.count;
    disks = valid.disks;
    apart =
        valid.apart;
    every = tt;
  };
  grid = (asked, some, refl);
  reached = ([], refl, refl);
  after_last = tt;
  before_end = none_before_first (end_stamp scene.rules.end);
  none_below = λ s h. none_before_first s;
}

pub disks_in_box : (scene : SceneData) → IsValidScene scene → AreInBox scene.disks
disks_in_box scene valid i a at =
    let start = (valid.disks i a at).valid in
    inside_in_box scene.rules a _ valid.rules start.size start.centre

-- ---- after an action
last_of : (xs : List Action) (x : Action) → last_stamp (xs ++ x ∷ []) ≡ Some (stamp_of x)
last_of [] x = refl
last_of (y ∷ []) x = refl
last_of (y ∷ z ∷ xs) x = last_of (z ∷ xs) x

pub followed_is : (state : CellStateData) (x : Action) → IsCellState state →
    IsNextOf state (stamp_of x) → ComesToInState state (stamp_of x) (Ok x) →
    IsCellState (followed state x)
followed_is state x is next comes =
    let k = known state is in
    let s = stamp_of x in
    let one : CellSteps state.rules state.grid state.placed (x ∷ []) (acted state.placed x) =
    (next, comes, refl) in
    let settled = settled_after state.rules state.grid state.placed x
    (turn state.rules state.grid state.placed k.from x k.checked k.of k.settled next comes) in
    let before = before_tick s (end_stamp state.rules.end)
    (cell_candidate_before_end state.rules state.grid state.placed s next.0) in
    record {
      scene = is.scene;
      grid = is.grid;
      reached = (
        is.reached.0 ++ x ∷ [],
        steps_join state.rules state.grid _ state.placed (acted state.placed x) is.reached.0
            (x ∷ []) is.reached.1 one,
        sym (last_of is.reached.0 x),
      );
      after_last = not_before_itself s;
      before_end = λ after. not_before_itself s
          (before_trans s (end_stamp state.rules.end) s before after);
      none_below = λ t h before_s. not_before_itself s
          (before_trans s t s (settled.after t h) before_s);
    }

-- the rows that the next action changes are there
pub has_rows : (state : CellStateData) (x : Action) → IsCellState state →
    IsNextOf state (stamp_of x) → ComesToInState state (stamp_of x) (Ok x) →
    HasRows state.placed x
has_rows state (Cross t cell) is next comes =
    let row = row_of_candidate state.rules state.grid state.placed t next.0 in
    slice_get_within state.placed t.first row.0 row.1
has_rows state (Hit c) is next comes =
    let row = row_of_candidate state.rules state.grid state.placed c.stamp next.0 in
    (slice_get_within state.placed c.stamp.first row.0 row.1, by_second c.second refl)
  where
    by_second : (o : Option Disk) → c.second ≡ o →
        IfSome o (λ _. c.stamp.second < length state.placed)
    by_second None e = tt
    by_second (Some d) e =
        let k = known state is in
        let turned = turn state.rules state.grid state.placed k.from
        (Hit c) k.checked k.of k.settled next comes in
        let pair = pair_of state.rules state.grid state.placed c next.0
        (no_crossing c.stamp.kind
        (candidate_kind state.rules
        (disks_of state.placed) c.stamp turned.0.0)) turned.0 turned.1
        (λ none. none-some d (sym none ∙ e)) in
        slice_get_within state.placed c.stamp.second pair.1.2.0 pair.1.2.1

-- ---- the next event, at the rows that reads give
-- the row that a read gives
pub row_read : (placed : List Placed) (i : ℕ) (row : Placed) → i < length placed →
    row ≡ get_or placed i row → slice_get placed i ≡ Some row
row_read placed i row within is = slice_get-get_or placed i row within
    ∙ ap (λ (p : Placed). Some p) (sym is)

kinds_differ : (k : Kind) → (k ≡ Crossing) ⊎ (k ≡ Wall) → ¬ (k ≡ Pair)
kinds_differ Crossing h e = cc
kinds_differ Wall h e = cc
kinds_differ Pair h e = elim h [ inl c ↦ cc | inr w ↦ cc ]

near_pair : (rules : Rules) (grid : GridData) (placed : List Placed) (s : Stamp) →
    IsStateCandidate rules grid placed s → s.kind ≡ Pair →
    IsNearPair rules grid (slice_get placed) s
near_pair rules grid placed s h kind = elim h [
  | inl cross ↦ absurd (kinds_differ s.kind (inl (ap (λ (v : Stamp). v.kind) cross.2.2)) kind)
  | inr event ↦ elim event [
    | inl wall ↦ absurd (kinds_differ s.kind (inr (ap (λ (v : Stamp). v.kind) wall.2.2)) kind)
    | inr pair ↦ pair
  ]
]

pub first_there : (state : CellStateData) (s : Stamp) → IsNextOf state s →
    s.first < length state.placed
first_there state s next =
    let row = row_of_candidate state.rules state.grid state.placed s next.0 in
    slice_get_within state.placed s.first row.0 row.1

pub second_there : (state : CellStateData) (s : Stamp) → IsNextOf state s → s.kind ≡ Pair →
    s.second < length state.placed
second_there state s next kind =
    let pair = near_pair state.rules state.grid state.placed s next.0 kind in
    slice_get_within state.placed s.second pair.1.2.0 pair.1.2.1

pub pair_by : (state : CellStateData) (s : Stamp) (p q : Placed) → IsNextOf state s →
    s.kind ≡ Pair →
    slice_get state.placed s.first ≡ Some p → slice_get state.placed s.second ≡ Some q →
    IsEventBy state.rules state.grid s p (Some q.disk) s.kind
pair_by state s p q next kind at_p at_q =
    let rules = state.rules in
    let pair = near_pair rules state.grid state.placed s next.0 kind in
    let first : pair.1.0 ≡ p = same_Some pair.1.0 p (sym pair.1.1 ∙ at_p) in
    let second : pair.1.2.0 ≡ q = same_Some pair.1.2.0 q (sym pair.1.2.1 ∙ at_q) in
    subst (IsEventBy rules state.grid s p (Some q.disk)) (sym kind)
    (subst (λ (r : Placed). IsPairEvent rules s.first r.disk s.second q.disk s) first
    (subst (λ (r : Placed). IsPairEvent rules s.first pair.1.0.disk s.second r.disk s) second
    pair.1.2.3))

pub alone_by : (state : CellStateData) (s : Stamp) (p : Placed) → IsNextOf state s →
    ¬ (s.kind ≡ Pair) →
    slice_get state.placed s.first ≡ Some p → IsEventBy state.rules state.grid s p None s.kind
alone_by state s p next not at = elim next.0 [
  | inl cross ↦ subst (IsEventBy state.rules state.grid s p None)
      (sym (ap (λ (v : Stamp). v.kind) cross.2.2))
      (subst (λ (r : Placed). IsCrossEvent state.rules state.grid s.first r.disk r.cell s)
      (same_Some cross.0 p (sym cross.1 ∙ at)) cross.2)
  | inr event ↦ elim event [
    | inl wall ↦ subst (IsEventBy state.rules state.grid s p None)
        (sym (ap (λ (v : Stamp). v.kind) wall.2.2))
        (subst (λ (r : Placed). IsWallEvent state.rules s.first r.disk s.second s)
        (same_Some wall.0 p (sym wall.1 ∙ at)) wall.2)
    | inr pair ↦ absurd (not (ap (λ (v : Stamp). v.kind) pair.1.2.3.2))
  ]
]

pub pair_comes : (state : CellStateData) (s : Stamp) (p q : Placed) (r : Result Action Limit) →
    s.kind ≡ Pair →
    slice_get state.placed s.first ≡ Some p → slice_get state.placed s.second ≡ Some q →
    r ≡ action_of state.rules state.grid s p.disk (Some q.disk) s.kind → ComesToInState state s r
pair_comes state s p q r kind at_p at_q is =
    let partner : partner_in s.kind (slice_get state.placed) s.second ≡ Some q.disk =
    ap (λ (k : Kind). partner_in k (slice_get state.placed) s.second) kind ∙ ap disk_in at_q in (
      p,
      at_p,
      is ∙ ap (λ (b : Option Disk). action_of state.rules state.grid s p.disk b s.kind)
          (sym partner),
    )

pub alone_comes : (state : CellStateData) (s : Stamp) (p : Placed) (r : Result Action Limit) →
    ¬ (s.kind ≡ Pair) →
    slice_get state.placed s.first ≡ Some p →
    r ≡ action_of state.rules state.grid s p.disk None s.kind → ComesToInState state s r
alone_comes state s p r not at is = (
  p,
  at,
  is ∙ ap (λ (b : Option Disk). action_of state.rules state.grid s p.disk b s.kind)
      (sym (none s.kind not)),
)
  where
    none : (k : Kind) → ¬ (k ≡ Pair) → partner_in k (slice_get state.placed) s.second ≡ None
    none Crossing n = refl
    none Wall n = refl
    none Pair n = absurd (n refl)

-- the action of the next event has its stamp
pub own_stamp : (state : CellStateData) (s : Stamp) (x : Action) → IsCellState state →
    IsNextOf state s → ComesToInState state s (Ok x) → s ≡ stamp_of x
own_stamp state s x is next comes =
    let k = known state is in
    action_stamp state.rules state.grid state.placed k.from s x k.checked k.of k.settled next
    comes

pub some_found : (state : CellStateData) (found : Option Stamp) → HasNext state →
    IsLeastOf (IsCandidateOf state) found → IsSome found
some_found state None next none = absurd (none next.0 next.1.0)
some_found state (Some s) next least = refl

-- ---- rows
pub few_rows : (state : CellStateData) → IsCellState state → length state.placed ≤ 65536
few_rows state is =
    let count = (cell_states_are_orderly state is).records.count in
    let same = length_disks state.placed in omega arith
  where
    length_disks : (placed : List Placed) → length (disks_of placed) ≡ length placed
    length_disks [] = refl
    length_disks (p ∷ placed) = ap suc (length_disks placed)

-- the disk that a read gives
pub disk_read : (disks : List Disk) (i : ℕ) → i < length disks →
    slice_get disks i ≡ Some (get_or disks i no_row.disk)
disk_read disks i lt = slice_get-get_or disks i no_row.disk lt

-- ---- with a later floor
not_before_later : (last : Option Stamp) (s t : Stamp) → IsNotBefore last s → ¬ Before t s →
    IsNotBefore last t
not_before_later None s t after late = tt
not_before_later (Some last) s t after late = λ before. late (by_order before (before_decides last s))
  where
    by_order : Before t last → Before last s ⊎ ¬ Before last s → Before t s
    by_order before (inl less) = before_trans t last s before less
    by_order before (inr not_less) = subst (Before t) (same_stamp last s not_less after) before

pub raised_is : (state : CellStateData) (to : Stamp) → IsCellState state → ¬ Before to state.floor →
    ¬ Before (end_stamp state.rules.end) to → HasNoneBelow state to → IsCellState (raised to state)
raised_is state to is not_lowered in_time none = record {
  scene = is.scene;
  grid = is.grid;
  reached = is.reached;
  after_last = not_before_later state.last state.floor to is.after_last not_lowered;
  before_end = in_time;
  none_below = none;
}
