-- Views after rows are set in them.
use Rattle.std.proofs.Common.{◌≡◌, ◌≢◌, ℕ, ◌+◌, ◌≤◌, ◌==◌, Bool, true, false, [], ◌∷◌, ◌++◌, sym, ap, ◌∙◌, subst, refl, arith, Option, Some, None}
use Rattle.std.specs.Prelude.{if◌then◌else◌, ◌↔◌, ◌||◌, ◌&&◌, nat_le, IfSome, MatchOption}
use Rattle.std.proofs.lemmas.Option.{none-some, same_Some}
use Rattle.std.specs.FinMap as map
use Rattle.event_stamps.specs.declared.Stamp.{Stamp}
use Rattle.cell_grid.specs.Grid.{GridData, Reaches, column_of, strip_start}
use Rattle.region_view.specs.declared.action.Placed.{Placed}
use Rattle.region_view.specs.Placing.{Placing}
use Rattle.region_view.specs.Acting.{stamp_of}
use Rattle.region_view.specs.Views.{ViewData, IsViewOf}
use Rattle.region_view.specs.Setting.{RowList, AreRows, put, set_row, set_rows, rows_set, put_over}
use Rattle.region_view.specs.Messages.{reaches, sees, seen_by, told_row, told_rows, message_with, message_of}
use Rattle.region_view.specs.Laws.{HomeSees, ToldSees}
use Rattle.region_view.proofs.Puts.{get_put, is_same, not_same}
use Rattle.region_view.proofs.ValidRows.{actions_have_rows}

-- ---- one row
-- what a region sees of what stands at one number
abbrev IsSeenAs : GridData → ℕ → Option Placed → Option Placed → Type 0
IsSeenAs grid k row seen = (p : Placed) → (seen ≡ Some p) ↔ ((row ≡ Some p) × Reaches grid k p.cell)

-- the placing with this row put over
abbrev with_row : Placing → ℕ → Option Placed → Placing
with_row at i row j = if j == i then row else at j

set_seen : (grid : GridData) (k : ℕ) (at : Placing) (view : ViewData) (i : ℕ)
    (row seen : Option Placed) → IsViewOf grid k at view → IsSeenAs grid k row seen →
    IsViewOf grid k (with_row at i row) (put view i seen)
set_seen grid k at view i row seen is seen_is j =
    subst (IsSeenAs grid k (if j == i then row else at j)) (sym (get_put view i seen j))
    (by_test (j == i))
  where
    by_test : (b : Bool) →
        IsSeenAs grid k (if b then row else at j) (if b then seen else map.get view j)
    by_test true = seen_is
    by_test false = is j

-- ---- rows in reach
reached : (grid : GridData) (k : ℕ) (row : Option Placed) →
    IfSome row (λ p. Reaches grid k p.cell) → IsSeenAs grid k row row
reached grid k row h p = (
  λ e. (e, subst (λ (o : Option Placed). IfSome o (λ q. Reaches grid k q.cell)) e h),
  λ l. l.0,
)

pub home_sees : HomeSees
home_sees grid k at view [] is h = is
home_sees grid k at view (r ∷ rows) is h =
    home_sees grid k (with_row at r.0 r.1) (set_row view r) rows
    (set_seen grid k at view r.0 r.1 r.1 is (reached grid k r.1 h.0)) h.1

-- ---- rows that are told
pub reaches_is : (grid : GridData) (q cell : ℕ) → reaches grid q cell ≡ true → Reaches grid q cell
reaches_is grid q cell e =
    by_tests (strip_start grid q) (column_of grid cell) (strip_start grid (q + 1)) e
  where
    by_tests : (start column end : ℕ) → (nat_le start (column + 1) && nat_le column end) ≡ true →
        (start ≤ column + 1) × (column ≤ end)
    by_tests start column end e = grind arith

is_reached : (grid : GridData) (q cell : ℕ) → Reaches grid q cell → reaches grid q cell ≡ true
is_reached grid q cell h =
    by_tests (strip_start grid q) (column_of grid cell) (strip_start grid (q + 1)) h.0 h.1
  where
    by_tests : (start column end : ℕ) → start ≤ column + 1 → column ≤ end →
        (nat_le start (column + 1) && nat_le column end) ≡ true
    by_tests start column end h k = grind arith

told_is_seen : (grid : GridData) (q : ℕ) (row : Option Placed) →
    IsSeenAs grid q row (seen_by grid q row)
told_is_seen grid q None p = (λ e. absurd (none-some p e), λ h. absurd (none-some p h.0))
told_is_seen grid q (Some r) p = by_test (reaches grid q r.cell) refl
  where
    by_test : (b : Bool) → reaches grid q r.cell ≡ b →
        ((if b then Some r else None) ≡ Some p) ↔ ((Some r ≡ Some p) × Reaches grid q p.cell)
    by_test true e = (
      λ h. (
        h,
        subst (λ (v : Placed). Reaches grid q v.cell) (same_Some r p h) (reaches_is grid q r.cell e),
      ),
      λ h. h.0,
    )
    by_test false e = (
      λ h. absurd (none-some p h),
      λ h.
          let reached : reaches grid q r.cell ≡ true = is_reached grid q r.cell
          (subst (λ (v : Placed). Reaches grid q v.cell) (sym (same_Some r p h.0)) h.1) in
          cc,
    )

-- what isn't seen isn't in reach
unseen : (grid : GridData) (q : ℕ) (row : Option Placed) (p : Placed) → sees grid q row ≡ false →
    row ≡ Some p → ¬ Reaches grid q p.cell
unseen grid q row p not is reach =
    let reached = is_reached grid q p.cell reach in
    let seen : sees grid q row ≡ true = ap (sees grid q) is ∙ reached in
    cc

-- a row that isn't told leaves the view right
kept : (grid : GridData) (q : ℕ) (at : Placing) (view : ViewData) (r : ℕ × Option Placed) →
    IsViewOf grid q at view → sees grid q (at r.0) ≡ false → sees grid q r.1 ≡ false →
    IsViewOf grid q (with_row at r.0 r.1) view
kept grid q at view r is before after j = by_test (j == r.0) refl
  where
    by_test : (b : Bool) → (j == r.0) ≡ b →
        IsSeenAs grid q (if b then r.1 else at j) (map.get view j)
    by_test true e p = (
      λ h.
          let old = (is j p).0 h in
          absurd (unseen grid q (at r.0) p before (ap at (sym (is_same j r.0 e)) ∙ old.0) old.1),
      λ h. absurd (unseen grid q r.1 p after h.0 h.1),
    )
    by_test false e p = is j p

told_one : (grid : GridData) (q : ℕ) (before at : Placing) (view : ViewData) (r : ℕ × Option Placed) →
    IsViewOf grid q at view → at r.0 ≡ before r.0 →
    IsViewOf grid q (with_row at r.0 r.1) (set_rows view (told_row grid q before r))
told_one grid q before at view r is same =
    by_tests (sees grid q (before r.0)) (sees grid q r.1) refl refl
  where
    told : IsViewOf grid q (with_row at r.0 r.1) (put view r.0 (seen_by grid q r.1))
    told = set_seen grid q at view r.0 r.1 (seen_by grid q r.1) is (told_is_seen grid q r.1)

    by_tests : (old new : Bool) → sees grid q (before r.0) ≡ old → sees grid q r.1 ≡ new →
        IsViewOf grid q (with_row at r.0 r.1)
        (set_rows view (if old || new then (r.0, seen_by grid q r.1) ∷ [] else []))
    by_tests true new e f = told
    by_tests false true e f = told
    by_tests false false e f = kept grid q at view r is (ap (sees grid q) same ∙ e) f

set_append : (view : ViewData) (xs ys : RowList) →
    set_rows view (xs ++ ys) ≡ set_rows (set_rows view xs) ys
set_append view [] ys = refl
set_append view (r ∷ xs) ys = set_append (set_row view r) xs ys

told_all : (grid : GridData) (q : ℕ) (at : Placing) (view : ViewData) (rows : RowList) →
    AreRows rows → IsViewOf grid q at view →
    IsViewOf grid q (put_over at rows) (set_rows view (told_rows grid q at rows))
told_all grid q at view [] h is = is
told_all grid q at view (r ∷ []) h is =
    subst (IsViewOf grid q (with_row at r.0 r.1)) (sym (set_append view (told_row grid q at r) []))
    (told_one grid q at at view r is refl)
told_all grid q at view (r ∷ s ∷ []) lt is =
    let middle = set_rows view (told_row grid q at r) in
    let apart : s.0 ≢ r.0 = omega arith in
    let same : with_row at r.0 r.1 s.0 ≡ at s.0 =
    ap (λ (b : Bool). if b then r.1 else at s.0) (not_same s.0 r.0 apart) in
    subst (IsViewOf grid q (with_row (with_row at r.0 r.1) s.0 s.1))
    (sym (set_append view (told_row grid q at r) (told_row grid q at s ++ [])
    ∙ set_append middle (told_row grid q at s) []))
    (told_one grid q at (with_row at r.0 r.1) middle s (told_one grid q at at view r is refl) same)
told_all grid q at view (r ∷ s ∷ t ∷ rows) h is = absurd h

-- given the message, or that there is none
by_message : (grid : GridData) (q : ℕ) (at : Placing) (view : ViewData) (s : Stamp) (told : RowList) →
    IsViewOf grid q at (set_rows view told) →
    MatchOption (message_with s told) (IsViewOf grid q at view)
    (λ m. IsViewOf grid q at (set_rows view m.rows))
by_message grid q at view s [] is = is
by_message grid q at view s (r ∷ told) is = is

pub told_sees : ToldSees
unfolding message_of
told_sees grid q at view x is order =
    by_message grid q (put_over at (rows_set at x)) view (stamp_of x)
    (told_rows grid q at (rows_set at x))
    (told_all grid q at view (rows_set at x) (actions_have_rows at x order) is)
