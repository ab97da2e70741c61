-- The rows that an action sets.
use Rattle.std.proofs.Common.{◌≡◌, ◌≢◌, ◌⊎◌, inl, inr, ℕ, ◌<◌, ◌==◌, List, [], ◌∷◌, ◌++◌}
use Rattle.std.proofs.Common.{length, length-set, sym, ap, ◌∙◌, subst, refl, Option, Some, None}
use Rattle.std.proofs.Common.{slice_get, slice_set, get_or}
use Rattle.std.specs.Prelude.{map as each, if◌then◌else◌, ◌||◌, ⊤, IfSome}
use Rattle.std.proofs.lemmas.Option.{none-some, slice_get_within, slice_get-get_or}
use Rattle.fixed_motion.specs.declared.disk.Disk.{Disk}
use Rattle.event_stamps.proofs.Decision.{same_number}
use Rattle.cell_grid.specs.Grid.{GridData, Reaches}
use Rattle.region_view.specs.declared.action.Placed.{Placed}
use Rattle.region_view.specs.declared.action.Action.{Action}
use Rattle.region_view.specs.declared.action.Action.TheVariants.{Cross, Hit}
use Rattle.region_view.specs.Placing.{Placing}
use Rattle.region_view.specs.Acting.{stamp_of, recelled, redisked, new_rows}
use Rattle.region_view.specs.Setting.{RowList, rows_set, get_over, put_over}
use Rattle.region_view.specs.Messages.{message_of, message_with, told_rows, sees, seen_by}
use Rattle.region_view.specs.Laws.{AreInReach}
use Rattle.region_view.proofs.Puts.{same_is, not_same}
use Rattle.cell_sequence.specs.Run.{acted}
use Rattle.cell_sequence.proofs.Lists.{get_other, get_here}
use Rattle.cell_sequence.proofs.Acts.{set_all}

-- ---- each row that is set
-- the disks whose rows an action sets
abbrev pub Touches : Action → ℕ → Type 0
Touches (Cross t cell) i = i ≡ t.first
Touches (Hit c) i = (i ≡ c.stamp.first) ⊎ ((c.second ≢ None) × (i ≡ c.stamp.second))

-- the cell that it sets for a row
abbrev pub cell_set : Action → Placed → ℕ
cell_set (Cross t cell) p = cell
cell_set (Hit c) p = p.cell

abbrev as_rows : List (ℕ × Placed) → RowList
as_rows rows = each (λ r. (r.0, Some r.1)) rows

abbrev AllRows : (ℕ × Option Placed → Type 0) → RowList → Type 0
AllRows P [] = ⊤
AllRows P (r ∷ rows) = P r × AllRows P rows

each_set : (at : Placing) (x : Action) (P : ℕ × Option Placed → Type 0) →
    ((i : ℕ) (p q : Placed) → Touches x i → at i ≡ Some p → q.cell ≡ cell_set x p → P (i, Some q)) →
    AllRows P (rows_set at x)
each_set at (Cross t cell) P holds = by_row (at t.first) refl
  where
    by_row : (o : Option Placed) → at t.first ≡ o → AllRows P (as_rows (recelled t.first cell o))
    by_row None e = tt
    by_row (Some p) e = (holds t.first p (record { disk = p.disk; cell = cell }) refl e refl, tt)
each_set at (Hit c) P holds =
    by_rows c.second (at c.stamp.first) (at c.stamp.second) refl refl refl
  where
    first : (p : Placed) → at c.stamp.first ≡ Some p →
        P (c.stamp.first, Some (record { disk = c.first; cell = p.cell }))
    first p e = holds c.stamp.first p (record { disk = c.first; cell = p.cell }) (inl refl) e refl

    second : (d : Disk) (q : Placed) → c.second ≡ Some d → at c.stamp.second ≡ Some q →
        P (c.stamp.second, Some (record { disk = d; cell = q.cell }))
    second d q is e = holds c.stamp.second q (record { disk = d; cell = q.cell })
        (inr ((λ none. none-some d (sym none ∙ is)), refl)) e refl

    by_rows : (b : Option Disk) (o other : Option Placed) → c.second ≡ b → at c.stamp.first ≡ o →
        at c.stamp.second ≡ other →
        AllRows P (as_rows (redisked c.stamp.first (Some c.first) o ++ redisked c.stamp.second b other))
    by_rows None None other is e f = tt
    by_rows None (Some p) other is e f = (first p e, tt)
    by_rows (Some d) None None is e f = tt
    by_rows (Some d) None (Some q) is e f = (second d q is f, tt)
    by_rows (Some d) (Some p) None is e f = (first p e, tt)
    by_rows (Some d) (Some p) (Some q) is e f = (first p e, (second d q is f, tt))

pub set_in_reach : (grid : GridData) (k : ℕ) (at : Placing) (x : Action) →
    ((i : ℕ) (p : Placed) → Touches x i → at i ≡ Some p → Reaches grid k (cell_set x p)) →
    AreInReach grid k (rows_set at x)
set_in_reach grid k at x reach = as_reach (rows_set at x) (each_set at x InReach
    (λ i p q touches is cell. subst (Reaches grid k) (sym cell) (reach i p touches is)))
  where
    InReach : ℕ × Option Placed → Type 0
    InReach r = IfSome r.1 (λ q. Reaches grid k q.cell)

    as_reach : (rows : RowList) → AllRows InReach rows → AreInReach grid k rows
    as_reach [] h = tt
    as_reach (r ∷ rows) h = (h.0, as_reach rows h.1)

-- ---- the state after it
get_set_at : (placed : List Placed) (i j : ℕ) (q : Placed) → i < length placed →
    slice_get (slice_set placed i q) j ≡ (if j == i then Some q else slice_get placed j)
get_set_at placed i j q lt = elim (same_number j i) [
  | inl same ↦ ap (slice_get (slice_set placed i q)) same
      ∙ get_here placed i q (get_or placed i q) (slice_get-get_or placed i q lt)
      ∙ sym (ap (λ b. if b then Some q else slice_get placed j) (same_is j i same))
  | inr other ↦ get_other placed i j q other
      ∙ sym (ap (λ b. if b then Some q else slice_get placed j) (not_same j i other))
]

abbrev AreThere : List Placed → RowList → Type 0
AreThere placed rows = AllRows (λ r. r.0 < length placed) rows

still_there : (placed later : List Placed) (rows : RowList) → length later ≡ length placed →
    AreThere placed rows → AreThere later rows
still_there placed later [] same h = tt
still_there placed later (r ∷ rows) same h =
    (subst (λ (n : ℕ). r.0 < n) (sym same) h.0, still_there placed later rows same h.1)

set_over : (placed : List Placed) (rows : List (ℕ × Placed)) (i : ℕ) →
    AreThere placed (as_rows rows) →
    slice_get (set_all placed rows) i ≡ get_over (as_rows rows) i (slice_get placed i)
set_over placed [] i h = refl
set_over placed (r ∷ rows) i h =
    let later = slice_set placed r.0 r.1 in
    set_over later rows i
    (still_there placed later (as_rows rows) (length-set placed r.0 r.1) h.1)
    ∙ ap (get_over (as_rows rows) i) (get_set_at placed r.0 i r.1 h.0)

-- the state after an action is the state with the rows of the action put over
pub acted_is_over : (placed : List Placed) (x : Action) (i : ℕ) →
    slice_get (acted placed x) i ≡ put_over (slice_get placed) (rows_set (slice_get placed) x) i
acted_is_over placed x i = set_over placed (new_rows (slice_get placed) x) i
    (each_set (slice_get placed) x (λ r. r.0 < length placed)
    (λ j p q touches is cell. slice_get_within placed j p is))

-- ---- by placings that look alike
abbrev pub LookAlike : Placing → Placing → Action → Type 0
LookAlike at view x = (i : ℕ) → Touches x i → at i ≡ view i

pub rows_alike : (at view : Placing) (x : Action) → LookAlike at view x →
    rows_set at x ≡ rows_set view x
rows_alike at view (Cross t cell) same =
    ap (λ (o : Option Placed). as_rows (recelled t.first cell o)) (same t.first refl)
rows_alike at view (Hit c) same =
    ap (λ (o : Option Placed). as_rows (redisked c.stamp.first (Some c.first) o
    ++ redisked c.stamp.second c.second (at c.stamp.second))) (same c.stamp.first (inl refl))
    ∙ ap (λ rows. as_rows (redisked c.stamp.first (Some c.first) (view c.stamp.first) ++ rows))
    (by_second c.second refl)
  where
    by_second : (b : Option Disk) → c.second ≡ b →
        redisked c.stamp.second b (at c.stamp.second) ≡ redisked c.stamp.second b (view c.stamp.second)
    by_second None is = refl
    by_second (Some d) is = ap (redisked c.stamp.second (Some d))
        (same c.stamp.second (inr ((λ none. none-some d (sym none ∙ is)), refl)))

pub message_alike : (grid : GridData) (q : ℕ) (at view : Placing) (x : Action) → LookAlike at view x →
    message_of grid q at x ≡ message_of grid q view x
unfolding message_of
message_alike grid q at view x same = ap (message_with (stamp_of x))
    (told_alike (rows_set at x) (each_set at x (λ r. at r.0 ≡ view r.0)
    (λ i p r touches is cell. same i touches))
    ∙ ap (told_rows grid q view) (rows_alike at view x same))
  where
    told_alike : (rows : RowList) → AllRows (λ r. at r.0 ≡ view r.0) rows →
        told_rows grid q at rows ≡ told_rows grid q view rows
    told_alike [] h = refl
    told_alike (r ∷ rows) h =
        ap (λ (o : Option Placed). (if sees grid q o || sees grid q r.1
        then (r.0, seen_by grid q r.1) ∷ [] else []) ++ told_rows grid q at rows) h.0
        ∙ ap (λ told. (if sees grid q (view r.0) || sees grid q r.1
        then (r.0, seen_by grid q r.1) ∷ [] else []) ++ told) (told_alike rows h.1)
