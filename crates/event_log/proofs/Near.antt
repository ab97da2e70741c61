-- Why entries that a walk passes over have nothing to do with some rows.
use Rattle.std.proofs.Common.{◌≡◌, ◌≢◌, inl, inr, ℕ, zero, suc, ◌+◌, ◌<◌, List, [], ◌∷◌, length, get_or, slice_get, Option, Some, None, sym, ◌∙◌, subst, refl, arith, ◌≤◌, ◌⊎◌}
use Rattle.std.specs.Prelude.{IfSome, All, option_map, unwrap_or}
use Rattle.std.specs.List.{Contains}
use Rattle.std.proofs.lemmas.Option.{slice_get-map, slice_get-get_or}
use Rattle.event_stamps.specs.declared.Stamp.{Stamp}
use Rattle.cell_grid.specs.Grid.{GridData, IsAdjacent}
use Rattle.region_view.specs.declared.action.Placed.{Placed}
use Rattle.region_view.specs.Setting.{RowList, numbers_of, AreRows}
use Rattle.region_messages.specs.Trails.{IsAmong}
use Rattle.event_log.specs.declared.heads.Head.{Head}
use Rattle.event_log.specs.declared.heads.Form.{Form}
use Rattle.event_log.specs.declared.heads.Form.TheVariants.{Crossing, Single, Double, Whole}
use Rattle.event_log.specs.declared.nearness.Side.{Side}
use Rattle.event_log.specs.declared.nearness.Sides.{Sides}
use Rattle.event_log.specs.Logged.{Logged}
use Rattle.event_log.specs.Heads.{NarrowList, row_place, row_size, row_at, entry_as, back_as, logged, log_of, AreLaid, row_count}
use Rattle.event_log.specs.Nearness.{AreAway, IsFar, IsFarHead, HasNarrow, AllUpTo, IsPutAt, AreSidesOf, AreUnnamed, IsAwayFrom}
use Rattle.event_log.proofs.Cuts.{piece_at}
use Rattle.event_log.proofs.Read.{count_is}

-- ---- disks
-- a row of a disk
row_among : (rows : RowList) (i : ℕ) → Contains (numbers_of rows) i →
    (row : ℕ × Option Placed) × IsAmong row rows × (row.0 ≡ i)
row_among [] i (k, lt, same) = absurd (omega arith)
row_among (r ∷ rows) i (zero, lt, same) = (r, inl refl, same)
row_among (r ∷ rows) i (suc k, lt, same) =
    let more = row_among rows i (k, omega arith, same) in (more.0, inr more.1, more.2)

-- the disks of the rows are none of the stamp's numbers
off_numbers : (s : Stamp) (sides : Sides) (rows : RowList) → AreSidesOf sides rows → AreUnnamed s sides → (i : ℕ) →
    Contains (numbers_of rows) i → (s.first ≢ i) × (s.second ≢ i)
off_numbers s sides rows are off i has =
    let row = row_among rows i has in
    elim (are row.0 row.1) [
      | inl put ↦ ((λ same. off.0.0 (same ∙ sym row.2 ∙ put.disk)), (λ same. off.0.1 (same ∙ sym row.2 ∙ put.disk)))
      | inr put ↦ ((λ same. off.1.0 (same ∙ sym row.2 ∙ put.disk)), (λ same. off.1.1 (same ∙ sym row.2 ∙ put.disk)))
    ]

-- ---- cells
away_put : (grid : GridData) (p : Placed) (side : Side) (row : ℕ × Option Placed) → IsPutAt side row →
    (¬ IsAdjacent grid p.cell side.cell) → AreAway grid (Some p) row.1
away_put grid p side (i, None) put away = tt
away_put grid p side (i, Some q) put away =
    subst (λ (cell : ℕ). ¬ IsAdjacent grid p.cell cell) (sym put.cell) away

away_one : (grid : GridData) (sides : Sides) (rows : RowList) (one : Option Placed) → AreSidesOf sides rows →
    IsAwayFrom grid sides one → (other : ℕ × Option Placed) → IsAmong other rows → AreAway grid one other.1
away_one grid sides rows None are away other among = tt
away_one grid sides rows (Some p) are away other among = elim (are other among) [
  | inl put ↦ away_put grid p sides.first other put away.0
  | inr put ↦ away_put grid p sides.second other put away.1
]

-- ---- heads
-- the rows that lead back over an entry of one narrow row, or of two, are away
abbrev pub AreBacksAway : GridData → Sides → NarrowList → Head → Form → Type 0
AreBacksAway grid sides narrow h Crossing = IsAwayFrom grid sides (row_at narrow h.row)
AreBacksAway grid sides narrow h Single = IsAwayFrom grid sides (row_at narrow h.row)
AreBacksAway grid sides narrow h Double =
    IsAwayFrom grid sides (row_at narrow h.row) × IsAwayFrom grid sides (row_at narrow (h.row + 1))
AreBacksAway grid sides narrow h Whole = ⊥

one_disk : (i j : ℕ) (o : Option Placed) → i ≢ j → ¬ Contains (numbers_of ((i, o) ∷ [])) j
one_disk i j o off (zero, lt, same) = omega arith
one_disk i j o off (suc k, lt, same) = omega arith

two_disks : (i k j : ℕ) (o p : Option Placed) → i ≢ j → k ≢ j → ¬ Contains (numbers_of ((i, o) ∷ (k, p) ∷ [])) j
two_disks i k j o p off other (zero, lt, same) = omega arith
two_disks i k j o p off other (suc zero, lt, same) = omega arith
two_disks i k j o p off other (suc (suc n), lt, same) = omega arith

far_as : (grid : GridData) (sides : Sides) (rows : RowList) (narrow : NarrowList) (wholes : List Logged) (h : Head)
    (f : Form) → AreSidesOf sides rows → AreUnnamed h.stamp sides → AreBacksAway grid sides narrow h f →
    IsFar grid rows (entry_as narrow wholes h f, back_as narrow wholes h f)
far_as grid sides rows narrow wholes h Crossing are off away =
    let free = off_numbers h.stamp sides rows are off in
    record {
      apart = λ i has among. elim has [ inl first ↦ (free i among).0 first | inr second ↦ (free i among).1 second.1 ];
      others = λ i among. one_disk h.stamp.first i (row_at narrow h.row) (free i among).0;
      away = λ row other here among. elim here [
        | inl same ↦ subst (λ (r : ℕ × Option Placed). AreAway grid r.1 other.1) (sym same)
            (away_one grid sides rows (row_at narrow h.row) are away other among)
        | inr none ↦ absurd none
      ];
    }
far_as grid sides rows narrow wholes h Single are off away =
    let free = off_numbers h.stamp sides rows are off in
    record {
      apart = λ i has among. elim has [ inl first ↦ (free i among).0 first | inr second ↦ (free i among).1 second.1 ];
      others = λ i among. one_disk h.stamp.first i (row_at narrow h.row) (free i among).0;
      away = λ row other here among. elim here [
        | inl same ↦ subst (λ (r : ℕ × Option Placed). AreAway grid r.1 other.1) (sym same)
            (away_one grid sides rows (row_at narrow h.row) are away other among)
        | inr none ↦ absurd none
      ];
    }
far_as grid sides rows narrow wholes h Double are off away =
    let free = off_numbers h.stamp sides rows are off in
    record {
      apart = λ i has among. elim has [ inl first ↦ (free i among).0 first | inr second ↦ (free i among).1 second.1 ];
      others = λ i among. two_disks h.stamp.first h.stamp.second i (row_at narrow h.row) (row_at narrow (h.row + 1))
          (free i among).0 (free i among).1;
      away = λ row other here among. elim here [
        | inl same ↦ subst (λ (r : ℕ × Option Placed). AreAway grid r.1 other.1) (sym same)
            (away_one grid sides rows (row_at narrow h.row) are away.0 other among)
        | inr more ↦ elim more [
          | inl same ↦ subst (λ (r : ℕ × Option Placed). AreAway grid r.1 other.1) (sym same)
              (away_one grid sides rows (row_at narrow (h.row + 1)) are away.1 other among)
          | inr none ↦ absurd none
        ]
      ];
    }
far_as grid sides rows narrow wholes h Whole are off away = absurd away

pub far_head : (grid : GridData) (sides : Sides) (rows : RowList) (narrow : NarrowList) (h : Head) (f : Form) →
    h.form ≡ f → AreSidesOf sides rows → AreUnnamed h.stamp sides → AreBacksAway grid sides narrow h f →
    IsFarHead grid rows narrow h
far_head grid sides rows narrow h f form are off away wholes =
    subst (λ (g : Form). IsFar grid rows (entry_as narrow wholes h g, back_as narrow wholes h g)) (sym form)
    (far_as grid sides rows narrow wholes h f are off away)

-- ---- the log
-- the narrow rows of each head are there
pub have_narrow : (narrow : NarrowList) (wholes : List Logged) (heads : List Head) → AreLaid narrow wholes heads →
    All (HasNarrow narrow) heads
have_narrow narrow wholes heads laid k d lt =
    (piece_at row_place row_size 0 (length narrow) k heads d laid.row_cut lt).to

-- an item at a place
pub item_at : {A : Type 0} (P : A → Type 0) (xs : List A) (i : ℕ) (d : A) → i < length xs → P (get_or xs i d) →
    IfSome (slice_get xs i) P
item_at P xs i d lt is = subst (λ (o : Option _). IfSome o P) (sym (slice_get-get_or xs i d lt)) is

-- what the heads that are passed over amount to
logged_far : (grid : GridData) (rows : RowList) (narrow : NarrowList) (wholes : List Logged) (o : Option Head) →
    IfSome o (IsFarHead grid rows narrow) → IfSome (option_map (logged narrow wholes) o) (IsFar grid rows)
logged_far grid rows narrow wholes None far = tt
logged_far grid rows narrow wholes (Some h) far = far wholes

pub far_up_to : (grid : GridData) (rows : RowList) (narrow : NarrowList) (wholes : List Logged) (heads : List Head)
    (log : List Logged) (from : ℕ) (found : Option ℕ) → log_of narrow wholes heads ≡ log →
    AllUpTo (IsFarHead grid rows narrow) heads from found → AllUpTo (IsFar grid rows) log from found
far_up_to grid rows narrow wholes heads log from found is far k le lt =
    subst (λ (l : List Logged). IfSome (slice_get l k) (IsFar grid rows)) is
    (subst (λ (o : Option Logged). IfSome o (IsFar grid rows)) (sym (slice_get-map (logged narrow wholes) heads k))
    (logged_far grid rows narrow wholes (slice_get heads k) (far k le
    (subst (λ (n : ℕ). k < unwrap_or found n) (count_is narrow wholes heads log is) lt))))

-- ---- rows by how many there are
pub within_two : (n : ℕ) → 2 ≤ n → 0 < n
within_two n some = omega arith

pub ordered_two : (slice : RowList) (d : ℕ × Option Placed) → AreRows slice → 2 ≤ length slice →
    (get_or slice 0 d).0 < (get_or slice 1 d).0
ordered_two [] d are some = absurd (omega arith)
ordered_two (r ∷ []) d are some = absurd (omega arith)
ordered_two (r ∷ s ∷ []) d are some = are
ordered_two (r ∷ s ∷ t ∷ rows) d are some = absurd are

-- ---- the narrow rows of a head
first_of_form : (narrow : NarrowList) (h : Head) (f : Form) → h.form ≡ f → HasNarrow narrow h →
    h.row + row_count f ≤ length narrow
first_of_form narrow h f is has = subst (λ (g : Form). h.row + row_count g ≤ length narrow) is has

pub first_place : (narrow : NarrowList) (h : Head) → (h.form ≡ Crossing) ⊎ (h.form ≡ Single) → HasNarrow narrow h →
    h.row < length narrow
first_place narrow h (inl is) has = let fits = first_of_form narrow h Crossing is has in omega arith
first_place narrow h (inr is) has = let fits = first_of_form narrow h Single is has in omega arith

pub both_places : (narrow : NarrowList) (h : Head) → h.form ≡ Double → HasNarrow narrow h →
    (h.row < length narrow) × (h.row + 1 < length narrow)
both_places narrow h is has = let fits = first_of_form narrow h Double is has in (omega arith, omega arith)

-- nothing is claimed of what isn't there
pub none_if : {A : Type 0} (o : Option A) (P : A → Type 0) → o ≡ None → IfSome o P
none_if o P is = subst (λ v. IfSome v P) (sym is) tt
