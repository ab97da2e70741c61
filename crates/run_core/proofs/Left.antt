-- After an advance that raised less is left.
use Rattle.std.proofs.Common.{◌≡◌, ◌≢◌, ℕ, ◌+◌, ◌-◌, ◌<◌, ◌≤◌, List, [], ◌∷◌, sym, ◌∙◌, subst, refl, arith, Option, Some, None}
use Rattle.fixed_motion.specs.declared.rules.Rules.{Rules}
use Rattle.event_stamps.specs.declared.Stamp.{Stamp}
use Rattle.event_stamps.specs.Order.{Before, IsInRange, rank, first_stamp, end_stamp}
use Rattle.event_stamps.proofs.StampOrder.{none_before_first}
use Rattle.event_stamps.proofs.Ranks.{rank_less}
use Rattle.region_view.specs.declared.action.Placed.{Placed}
use Rattle.region_view.specs.declared.action.Action.{Action}
use Rattle.region_view.specs.Acting.{stamp_of}
use Rattle.cell_sequence.specs.Run.{opened, CellSteps}
use Rattle.cell_sequence.specs.State.{CellStateData, IsCellState, last_stamp, followed, followed_by}
use Rattle.cell_sequence.specs.Laws.{IsNextAction}
use Rattle.cell_sequence.proofs.Orderly.{cell_states_are_orderly}
use Rattle.cell_sequence.proofs.Followed.{followed_is}
use Rattle.run_core.specs.Simulates.{rank_of, work_left}
use Rattle.run_core.specs.Laws.{AdvancesEnd}
use Rattle.run_core.proofs.Advancing.{rules_after}

-- ---- the last stamp
-- it is that of an event
abbrev IsLast : Rules → Option Stamp → Type 0
IsLast rules None = Unit {0}
IsLast rules (Some last) = IsInRange last × Before last (end_stamp rules.end)

end_in_range : (end : ℕ) → IsInRange (end_stamp end)
end_in_range end = (omega arith, omega arith, omega arith)

rank_bounded : (rules : Rules) (last : Option Stamp) → IsLast rules last →
    rank_of last ≤ rank (end_stamp rules.end)
rank_bounded rules None is = omega arith
rank_bounded rules (Some last) is =
    let less : rank last < rank (end_stamp rules.end) =
    rank_less last (end_stamp rules.end) is.0 (end_in_range rules.end) is.1 in omega arith

-- an action comes after the last one
action_is_last : (state : CellStateData) (x : Action) → IsCellState state → IsNextAction state x →
    IsLast state.rules (Some (stamp_of x))
action_is_last state x is next =
    let orderly = cell_states_are_orderly state is in
    (orderly.in_range (stamp_of x) next.0.0, orderly.before_end (stamp_of x) next.0.0)

action_rises : (state : CellStateData) (x : Action) → IsCellState state → IsNextAction state x →
    IsLast state.rules state.last → rank_of state.last < rank_of (Some (stamp_of x))
action_rises state x is next last = by_last state.last refl last
  where
    by_last : (o : Option Stamp) → state.last ≡ o → IsLast state.rules o →
        rank_of o < rank (stamp_of x) + 1
    by_last None e h = omega arith
    by_last (Some t) e h =
        let orderly = cell_states_are_orderly state is in
        let less : rank t < rank (stamp_of x) =
        rank_less t (stamp_of x) h.0 (orderly.in_range (stamp_of x) next.0.0)
        (orderly.after_last t (stamp_of x) e next.0.0) in omega arith

-- after the next actions
record Follows (state : CellStateData) (xs : List Action) : Type 0 where
  last : IsLast state.rules (followed_by state xs).last
  rises : rank_of state.last ≤ rank_of (followed_by state xs).last
  some : xs ≢ [] → rank_of state.last < rank_of (followed_by state xs).last

follows : (xs : List Action) (state : CellStateData) (later : List Placed) → IsCellState state →
    IsLast state.rules state.last → CellSteps state.rules state.grid state.placed xs later →
    Follows state xs
follows [] state later is last steps =
    record { last = last; rises = omega arith; some = λ some. absurd (some refl) }
follows (x ∷ xs) state later is last steps =
    let next : IsNextAction state x = (steps.0, steps.1) in
    let more = follows xs (followed state x) later (followed_is state x is steps.0 steps.1)
    (action_is_last state x is next) steps.2 in
    let first : rank_of state.last < rank_of (Some (stamp_of x)) = action_rises state x is next last in
    let then : rank_of (Some (stamp_of x)) ≤ rank_of (followed_by (followed state x) xs).last = more.rises in
    let all : rank_of state.last < rank_of (followed_by (followed state x) xs).last =
    below (rank_of state.last) (rank_of (Some (stamp_of x)))
    (rank_of (followed_by (followed state x) xs).last) first then in
    record { last = more.last; rises = not_above (rank_of state.last) _ all; some = λ some. all }
  where
    below : (m n p : ℕ) → m < n → n ≤ p → m < p
    below m n p h k = omega arith

    not_above : (m n : ℕ) → m < n → m ≤ n
    not_above m n h = omega arith

-- ---- of each state
-- the state with which its run began
start : CellStateData → CellStateData
start state = record state { last = None; placed = opened state.grid state.opening; floor = first_stamp }

start_is : (state : CellStateData) → IsCellState state → IsCellState (start state)
unfolding start
start_is state is = record {
  scene = is.scene;
  grid = is.grid;
  reached = ([], refl, refl);
  after_last = tt;
  before_end = none_before_first (end_stamp state.rules.end);
  none_below = λ s h. none_before_first s;
}

last_followed : (xs : List Action) (state : CellStateData) → state.last ≡ None →
    (followed_by state xs).last ≡ last_stamp xs
last_followed [] state none = none
last_followed (x ∷ []) state none = refl
last_followed (x ∷ y ∷ xs) state none =
    last_followed (y ∷ xs) (record (followed state x) { last = None }) refl

last_is : (state : CellStateData) → IsCellState state → IsLast state.rules state.last
unfolding start
last_is state is = subst (IsLast state.rules)
    (last_followed is.reached.0 (start state) refl ∙ sym is.reached.2)
    (follows is.reached.0 (start state) state.placed (start_is state is) tt is.reached.1).last

-- ---- the law
less_left : (end m n : ℕ) → m < n → n ≤ end → end - n < end - m
less_left end m n h k = omega arith

pub advances_end : AdvancesEnd
unfolding work_left
advances_end old new runs batch is advance =
    let leads = advance.0 in
    let more = follows batch old new.placed is (last_is old is) leads.steps in
    subst (λ (v : CellStateData). rank (end_stamp v.rules.end) - rank_of v.last
    < rank (end_stamp old.rules.end) - rank_of old.last) (sym leads.state)
    (subst (λ (rules : Rules). rank (end_stamp rules.end) - rank_of (followed_by old batch).last
    < rank (end_stamp old.rules.end) - rank_of old.last) (sym (rules_after batch old))
    (less_left (rank (end_stamp old.rules.end)) (rank_of old.last) (rank_of (followed_by old batch).last)
    (more.some advance.1) (rank_bounded old.rules (followed_by old batch).last more.last)))
