-- What the regions see of the next action.
use Rattle.std.proofs.Common.{◌≡◌, ◌≢◌, ◌⊎◌, inl, inr, ℕ, sym, ap, ◌∙◌, subst, refl, Option, Some, None}
use Rattle.std.proofs.Common.{slice_get}
use Rattle.std.specs.Prelude.{MatchOption}
use Rattle.std.proofs.lemmas.Option.{same_Some}
use Rattle.cell_grid.specs.Grid.{GridData, IsCell, Owns, Reaches, AreLinked}
use Rattle.cell_grid.proofs.Owners.{own_is_in_reach}
use Rattle.region_view.specs.declared.action.Placed.{Placed}
use Rattle.region_view.specs.declared.action.Action.{Action}
use Rattle.region_view.specs.declared.action.Action.TheVariants.{Cross, Hit}
use Rattle.region_view.specs.declared.rows.Message.{Message}
use Rattle.region_view.specs.Placing.{Placing}
use Rattle.region_view.specs.Acting.{stamp_of, recelled}
use Rattle.region_view.specs.Views.{ViewData, rows_in, IsViewOf}
use Rattle.region_view.specs.Setting.{set_rows, rows_set, put_over, after_action}
use Rattle.region_view.specs.Messages.{message_of}
use Rattle.region_view.proofs.ValidRows.{actions_are_valid}
use Rattle.region_view.proofs.After.{home_sees, told_sees}
use Rattle.cell_sequence.specs.Run.{acted}
use Rattle.cell_sequence.specs.State.{CellStateData, IsCellState, followed}
use Rattle.cell_sequence.specs.Laws.{IsTouched, IsOrderly, Sees, IsNextAction, IsHomeOf, NextActionsAreSeen}
use Rattle.cell_sequence.proofs.Lists.{get_here}
use Rattle.cell_sequence.proofs.Acts.{set_all}
use Rattle.cell_sequence.proofs.Orderly.{known, hit_in_reach, cell_states_are_orderly}
use Rattle.cell_sequence.proofs.Followed.{followed_is}
use Rattle.cell_sequence.proofs.Touched.{Touches, cell_set, LookAlike, set_in_reach, acted_is_over}
use Rattle.cell_sequence.proofs.Touched.{rows_alike, message_alike}

-- ---- what the home reaches
-- the disks that the action touches
before_in_reach : (state : CellStateData) (x : Action) (k i : ℕ) (p : Placed) → IsCellState state →
    IsNextAction state x → IsHomeOf state (stamp_of x) k → Touches x i →
    slice_get state.placed i ≡ Some p → Reaches state.grid k p.cell
before_in_reach state (Cross t cell) k i p is next home first at =
    own_is_in_reach state.grid k p.cell (subst (λ (q : Placed). Owns state.grid k q.cell)
    (same_Some home.1.0 p (sym home.1.1 ∙ ap (slice_get state.placed) (sym first) ∙ at)) home.1.2)
before_in_reach state (Hit c) k i p is next home touches at =
    hit_in_reach state (known state is) c k i p home.0 next.0 next.1 home.1 touches at

-- and the cells that it sets
set_is_in_reach : (state : CellStateData) (x : Action) (k i : ℕ) (p : Placed) → IsCellState state →
    IsNextAction state x → IsHomeOf state (stamp_of x) k → Touches x i →
    slice_get state.placed i ≡ Some p → Reaches state.grid k (cell_set x p)
set_is_in_reach state (Hit c) k i p is next home touches at =
    before_in_reach state (Hit c) k i p is next home touches at
set_is_in_reach state (Cross t cell) k i p is next home first at =
    let x : Action = Cross t cell in
    let new : Placed = record { disk = p.disk; cell = cell } in
    let there : slice_get state.placed t.first ≡ Some p = ap (slice_get state.placed) (sym first) ∙ at in
    let set : slice_get (acted state.placed x) t.first ≡ Some new =
    ap (λ (row : Option Placed). slice_get (set_all state.placed (recelled t.first cell row)) t.first) there
    ∙ get_here state.placed t.first new p there in
    elim ((cell_states_are_orderly state is).stays x k t.first home.0 next.0 next.1 home.1) [
      | inl same ↦ subst (Reaches state.grid k)
          (ap (λ (q : Placed). q.cell) (same_Some p new (sym there ∙ sym same ∙ set)))
          (before_in_reach state x k i p is next home first at)
      | inr touched ↦ subst (λ (q : Placed). Reaches state.grid k q.cell)
          (same_Some touched.1 new (sym touched.3 ∙ set)) touched.5
    ]

-- so the touched disks look alike in the state and in the home's view
look_alike : (state : CellStateData) (x : Action) (k : ℕ) (view : ViewData) → IsCellState state →
    IsNextAction state x → IsHomeOf state (stamp_of x) k → Sees state k view →
    LookAlike (slice_get state.placed) (rows_in view) x
look_alike state x k view is next home sees i touches =
    by_rows (slice_get state.placed i) (rows_in view i) refl refl
  where
    by_rows : (row seen : Option Placed) → slice_get state.placed i ≡ row → rows_in view i ≡ seen →
        row ≡ seen
    by_rows None None at seen = refl
    by_rows None (Some p) at seen = sym at ∙ ((sees i p).0 seen).0
    by_rows (Some p) seen at is_seen =
        sym ((sees i p).1 (at, before_in_reach state x k i p is next home touches at)) ∙ is_seen

-- ---- what the regions see
seen_as : (grid : GridData) (k : ℕ) (f g : Placing) (view : ViewData) → ((i : ℕ) → g i ≡ f i) →
    IsViewOf grid k f view → IsViewOf grid k g view
seen_as grid k f g view same sees i p = (
  λ h. let seen = (sees i p).0 h in (same i ∙ seen.0, seen.1),
  λ h. (sees i p).1 (sym (same i) ∙ h.0, h.1),
)

home_sees_next : (state : CellStateData) (x : Action) (k : ℕ) (view : ViewData) → IsCellState state →
    IsNextAction state x → IsHomeOf state (stamp_of x) k → Sees state k view →
    Sees (followed state x) k (after_action view x)
home_sees_next state x k view is next home sees =
    let at = slice_get state.placed in
    let rows = rows_set at x in
    subst (λ rows. IsViewOf state.grid k (slice_get (acted state.placed x)) (set_rows view rows))
    (rows_alike at (rows_in view) x (look_alike state x k view is next home sees))
    (seen_as state.grid k (put_over at rows) (slice_get (acted state.placed x)) (set_rows view rows)
    (acted_is_over state.placed x)
    (home_sees state.grid k at view rows sees (set_in_reach state.grid k at x
    (λ i p touches is_there. set_is_in_reach state x k i p is next home touches is_there))))

-- what a region sees by the message that the home sends, or without one
abbrev SeesBy : CellStateData → ℕ → ViewData → Option Message → Type 0
SeesBy state q seen m =
    MatchOption m (Sees state q seen) (λ m. Sees state q (set_rows seen m.rows))

told_sees_next : (state : CellStateData) (x : Action) (k q : ℕ) (view seen : ViewData) →
    IsCellState state → IsNextAction state x → IsHomeOf state (stamp_of x) k → Sees state k view →
    Sees state q seen →
    SeesBy (followed state x) q seen (message_of state.grid q (rows_in view) x)
told_sees_next state x k q view seen is next home sees other =
    let at = slice_get state.placed in
    let orderly = cell_states_are_orderly state is in
    let valid = actions_are_valid state.rules state.grid at (stamp_of x) x is.scene.rules is.grid
    orderly.rows next.0.0 next.1 in
    subst (SeesBy (followed state x) q seen)
    (message_alike state.grid q at (rows_in view) x (look_alike state x k view is next home sees))
    (by_message (message_of state.grid q at x)
    (told_sees state.grid q at seen x other valid.order))
  where
    by_message : (m : Option Message) →
        MatchOption m
        (IsViewOf state.grid q (put_over (slice_get state.placed) (rows_set (slice_get state.placed) x)) seen)
        (λ m. IsViewOf state.grid q
        (put_over (slice_get state.placed) (rows_set (slice_get state.placed) x)) (set_rows seen m.rows)) →
        SeesBy (followed state x) q seen m
    by_message None h = seen_as state.grid q _ (slice_get (acted state.placed x)) seen
        (acted_is_over state.placed x) h
    by_message (Some m) h = seen_as state.grid q _ (slice_get (acted state.placed x))
        (set_rows seen m.rows) (acted_is_over state.placed x) h

-- a region that is told nothing, or isn't linked, sees what it saw
kept_sees_next : (state : CellStateData) (x : Action) (k q : ℕ) (view seen : ViewData) →
    IsCellState state → IsNextAction state x → IsHomeOf state (stamp_of x) k → Sees state k view →
    Sees state q seen → k ≢ q →
    (AreLinked state.grid k q → message_of state.grid q (rows_in view) x ≡ None) →
    Sees (followed state x) q seen
kept_sees_next state x k q view seen is next home sees other apart none i p = (
  λ h. let old = (other i p).0 h in elim touched [
    | inl same ↦ (same ∙ old.0, old.1)
    | inr row ↦
        let is_row : row.0 ≡ p = same_Some row.0 p (sym row.2 ∙ old.0) in
        (told p (orderly.rows.cell i p old.0)
        (subst (λ (r : Placed). Reaches state.grid k r.cell) is_row row.4) old.1 i p).0 h
  ],
  λ h. elim touched [
    | inl same ↦ (other i p).1 (sym same ∙ h.0, h.1)
    | inr row ↦
        let is_row : row.1 ≡ p = same_Some row.1 p (sym row.3 ∙ h.0) in
        (told p (later.rows.cell i p h.0)
        (subst (λ (r : Placed). Reaches state.grid k r.cell) is_row row.5) h.1 i p).1 h
  ],
)
  where
    orderly : IsOrderly state
    orderly = cell_states_are_orderly state is

    later : IsOrderly (followed state x)
    later = cell_states_are_orderly (followed state x) (followed_is state x is next.0 next.1)

    touched : (slice_get (acted state.placed x) i ≡ slice_get state.placed i)
        ⊎ IsTouched state.grid state.placed x k i
    touched = orderly.stays x k i home.0 next.0 next.1 home.1

    -- a cell that both reach links them
    told : (r : Placed) → IsCell state.grid r.cell → Reaches state.grid k r.cell →
        Reaches state.grid q r.cell → Sees (followed state x) q seen
    told r cell near far = subst (SeesBy (followed state x) q seen)
        (none (apart, (r.cell, cell, near, far)))
        (told_sees_next state x k q view seen is next home sees other)

pub next_actions_are_seen : NextActionsAreSeen
next_actions_are_seen state x is next =
    let leads = followed_is state x is next.0 next.1 in record {
      leads = leads;
      rises = λ s h. (cell_states_are_orderly (followed state x) leads).after_last (stamp_of x) s refl h;
      home = λ k view home sees. home_sees_next state x k view is next home sees;
      told = λ k q view seen m home sees other e. subst (SeesBy (followed state x) q seen) e
          (told_sees_next state x k q view seen is next home sees other);
      kept = λ k q view seen home sees other apart region none.
          kept_sees_next state x k q view seen is next home sees other apart none;
    }
