-- What the tests tell whether entries of a log are in the way of a message.
use Rattle.std.proofs.Common.{◌≡◌, ◌⊎◌, inl, inr, ℕ, zero, suc, ◌==◌, ◌∙◌, ◌<◌, ◌≤◌, Bool, List, [], ◌∷◌, length, drop, get_or, slice_get, Option, Some, None, sym, ap, subst, refl, arith}
use Rattle.std.specs.Prelude.{if◌then◌else◌, option_map, IfSome, All}
use Rattle.std.specs.List.{Contains}
use Rattle.std.proofs.lemmas.Option.{none-some, same_Some}
use Rattle.cell_grid.specs.Grid.{GridData}
use Rattle.region_view.specs.declared.action.Placed.{Placed}
use Rattle.fixed_motion.specs.declared.rules.Rules.{Rules}
use Rattle.event_stamps.specs.declared.Stamp.{Stamp}
use Rattle.event_stamps.specs.Order.{Before}
use Rattle.region_view.specs.Setting.{RowList, AreRows, AreValidRows, IsValidPlaced, numbers_of}
use Rattle.region_view.proofs.Puts.{same_is}
use Rattle.region_messages.specs.Trails.{IsAmong}
use Rattle.region_view.specs.Acting.{stamp_of}
use Rattle.region_view.specs.Naming.{Names}
use Rattle.local_run.specs.declared.home.Home.{Home}
use Rattle.event_log.specs.Logged.{Logged, logged_stamp, backs_in, stamps_in}
use Rattle.local_run.specs.declared.entry.Entry.{Entry}
use Rattle.local_run.specs.declared.entry.Entry.TheVariants.{Native, Heard}
use Rattle.local_run.specs.Entries.{native_in}
use Rattle.local_run.specs.Weaving.{IsApart, AreOthers}
use Rattle.local_run.proofs.Touched.{over_others}
use Rattle.region_parts.specs.Aside.{IsOwnTouch, TouchAfter, IsStepAside, IsLateAside, IsValidBack}

-- ---- at most two rows
pub of_one : (P : ℕ × Option Placed → Type 0) (slice : RowList) (d : ℕ × Option Placed) → 1 ≤ length slice →
    length slice < 2 → P (get_or slice 0 d) → (row : ℕ × Option Placed) → IsAmong row slice → P row
of_one P [] d some few one row among = absurd (omega arith)
of_one P (r ∷ []) d some few one row (inl same) = subst P (sym same) one
of_one P (r ∷ []) d some few one row (inr none) = absurd none
of_one P (r ∷ s ∷ rest) d some few one row among = absurd (omega arith)

pub of_two : (P : ℕ × Option Placed → Type 0) (slice : RowList) (d : ℕ × Option Placed) → AreRows slice →
    2 ≤ length slice → P (get_or slice 0 d) → P (get_or slice 1 d) → (row : ℕ × Option Placed) →
    IsAmong row slice → P row
of_two P [] d are some one two row among = absurd (omega arith)
of_two P (r ∷ []) d are some one two row among = absurd (omega arith)
of_two P (r ∷ s ∷ []) d are some one two row (inl same) = subst P (sym same) one
of_two P (r ∷ s ∷ []) d are some one two row (inr (inl same)) = subst P (sym same) two
of_two P (r ∷ s ∷ []) d are some one two row (inr (inr none)) = absurd none
of_two P (r ∷ s ∷ t ∷ rest) d are some one two row among = absurd are

-- ---- valid rows
pub first_valid : (rules : Rules) (grid : GridData) (rows : RowList) (d : ℕ × Option Placed) →
    AreValidRows rules grid rows → 1 ≤ length rows → IsValidPlaced rules grid (get_or rows 0 d).1
first_valid rules grid [] d valid some = absurd (omega arith)
first_valid rules grid (r ∷ rows) d valid some = valid.1

pub second_valid : (rules : Rules) (grid : GridData) (rows : RowList) (d : ℕ × Option Placed) →
    AreValidRows rules grid rows → 2 ≤ length rows → IsValidPlaced rules grid (get_or rows 1 d).1
second_valid rules grid [] d valid some = absurd (omega arith)
second_valid rules grid (r ∷ []) d valid some = absurd (omega arith)
second_valid rules grid (r ∷ s ∷ rows) d valid some = valid.2.1

-- the same for rows that lead back
by_placed : (rules : Rules) (grid : GridData) (o : Option Placed) →
    ((p : Placed) → o ≡ Some p → IsValidPlaced rules grid (Some p)) → IsValidPlaced rules grid o
by_placed rules grid None valid = tt
by_placed rules grid (Some p) valid = valid p refl

pub first_back : (h : Home) (rows : RowList) (d : ℕ × Option Placed) → AreRows rows → IsValidBack h rows →
    1 ≤ length rows → IsValidPlaced h.rules h.grid (get_or rows 0 d).1
first_back h [] d are valid some = absurd (omega arith)
first_back h (r ∷ []) d are valid some = by_placed h.rules h.grid r.1
    (λ p is. valid r.0 p (ap (λ (b : Bool). if b then r.1 else None) (same_is r.0 r.0 refl) ∙ is))
first_back h (r ∷ s ∷ []) d are valid some = by_placed h.rules h.grid r.1
    (λ p is. valid r.0 p (over_others (s ∷ []) r.0 (if r.0 == r.0 then r.1 else None) apart
    ∙ ap (λ (b : Bool). if b then r.1 else None) (same_is r.0 r.0 refl) ∙ is))
  where
    apart : ¬ Contains (s.0 ∷ []) r.0
    apart (zero, lt, same) = omega arith
    apart (suc k, lt, same) = omega arith
first_back h (r ∷ s ∷ t ∷ rows) d are valid some = absurd are

pub second_back : (h : Home) (rows : RowList) (d : ℕ × Option Placed) → AreRows rows → IsValidBack h rows →
    2 ≤ length rows → IsValidPlaced h.rules h.grid (get_or rows 1 d).1
second_back h [] d are valid some = absurd (omega arith)
second_back h (r ∷ []) d are valid some = absurd (omega arith)
second_back h (r ∷ s ∷ []) d are valid some = by_placed h.rules h.grid s.1
    (λ p is. valid s.0 p (ap (λ (b : Bool). if b then s.1 else (if s.0 == r.0 then r.1 else None))
    (same_is s.0 s.0 refl) ∙ is))
second_back h (r ∷ s ∷ t ∷ rows) d are valid some = absurd are

-- ---- the entries of a log one by one
-- the test says so for each place from one on
each_all : {A : Type 0} (P : A → Type 0) (xs : List A) →
    ((k : ℕ) → k < length xs → IfSome (slice_get xs k) P) → All P xs
each_all P [] each k d lt = absurd (omega arith)
each_all P (x ∷ xs) each zero d lt = each 0 (omega arith)
each_all P (x ∷ xs) each (suc k) d lt = each_all P xs (λ j low. each (suc j) (omega arith)) k d (omega arith)

pub all_from : {A : Type 0} (P : A → Type 0) (n : ℕ) (xs : List A) →
    ((k : ℕ) → k < length xs → n ≤ k → IfSome (slice_get xs k) P) → All P (drop n xs)
all_from P zero xs each = each_all P xs (λ k lt. each k lt (omega arith))
all_from P (suc n) [] each = λ k d lt. absurd (omega arith)
all_from P (suc n) (x ∷ xs) each = all_from P n xs (λ k lt le. each (suc k) (omega arith) (omega arith))

pub back_at : (P : RowList → Type 0) (log : List Logged) (i : ℕ) (back : RowList) → All (λ l. P l.1) log →
    slice_get (backs_in log) i ≡ Some back → P back
back_at P [] i back all is = absurd (none-some back is)
back_at P (l ∷ log) zero back all is = subst P (same_Some l.1 back is) (all 0 l (omega arith))
back_at P (l ∷ log) (suc i) back all is = back_at P log i back (λ k d lt. all (suc k) d (omega arith)) is

pub late_at : (h : Home) (rows : RowList) (log : List Logged) (i : ℕ) (at : Stamp) (back : RowList) →
    slice_get (stamps_in log) i ≡ Some at → slice_get (backs_in log) i ≡ Some back →
    IsStepAside h rows at back → IfSome (slice_get log i) (IsLateAside h rows)
late_at h rows [] i at back stamp is aside = tt
late_at h rows (l ∷ log) zero at back stamp is aside =
    subst (λ (t : Stamp). IsStepAside h rows t l.1) (sym (same_Some (logged_stamp l) at stamp))
    (subst (IsStepAside h rows at) (sym (same_Some l.1 back is)) aside)
late_at h rows (l ∷ log) (suc i) at back stamp is aside = late_at h rows log i at back stamp is aside

-- an event by its stamp
pub named_at : (rows : RowList) (o : Option Entry) (s : Stamp) → Some s ≡ option_map stamp_of (native_in o) →
    ((i : ℕ) → Names s i → ¬ Contains (numbers_of rows) i) → IfSome o (IsApart rows)
named_at rows None s is apart = tt
named_at rows (Some (Native x)) s is apart = λ i named.
    apart i (subst (λ (t : Stamp). Names t i) (sym (same_Some s (stamp_of x) is)) named)
named_at rows (Some (Heard q m)) s is apart = absurd (none-some s (sym is))

-- the disks in two rows touch only after a stamp, whichever of them is the first of the event
pub touch_after : (h : Home) (at : Stamp) (row other : ℕ × Option Placed) (p q : Placed) → row.1 ≡ Some p →
    other.1 ≡ Some q → ((s : Stamp) → IsOwnTouch h row.0 p other.0 q s → Before at s) →
    ((s : Stamp) → IsOwnTouch h other.0 q row.0 p s → Before at s) → TouchAfter h at row other
touch_after h at row other p q here there one two =
    subst (λ (o : Option Placed). TouchAfter h at (row.0, o) other) (sym here)
    (subst (λ (o : Option Placed). TouchAfter h at (row.0, Some p) (other.0, o)) (sym there) each)
  where
    each : (s : Stamp) → IsOwnTouch h row.0 p other.0 q s ⊎ IsOwnTouch h other.0 q row.0 p s → Before at s
    each s (inl touch) = one s touch
    each s (inr touch) = two s touch

-- a row without a disk touches nothing
pub none_touched : (h : Home) (at : Stamp) (row other : ℕ × Option Placed) → other.1 ≡ None →
    TouchAfter h at row other
none_touched h at (i, None) other none = tt
none_touched h at (i, Some p) other none =
    subst (λ (o : Option Placed). TouchAfter h at (i, Some p) (other.0, o)) (sym none) tt

-- ---- rows by how many there are
pub of_none : (P : ℕ × Option Placed → Type 0) (slice : RowList) → length slice < 1 →
    (row : ℕ × Option Placed) → IsAmong row slice → P row
of_none P [] none row among = absurd among
of_none P (r ∷ rest) none row among = absurd (omega arith)

pub within_two : (n : ℕ) → 2 ≤ n → 0 < n
within_two n some = omega arith

pub others_none : (xs ys : RowList) → length xs < 1 → AreOthers xs ys
others_none [] ys none i (k, lt, same) = absurd (omega arith)
others_none (x ∷ xs) ys none i here = absurd (omega arith)

pub others_one : (xs ys : RowList) (d : ℕ × Option Placed) → 1 ≤ length xs → length xs < 2 →
    ¬ Contains (numbers_of ys) (get_or xs 0 d).0 → AreOthers xs ys
others_one [] ys d some few one i here = absurd (omega arith)
others_one (x ∷ []) ys d some few one i (zero, lt, same) =
    subst (λ (n : ℕ). ¬ Contains (numbers_of ys) n) same one
others_one (x ∷ []) ys d some few one i (suc k, lt, same) = absurd (omega arith)
others_one (x ∷ y ∷ xs) ys d some few one i here = absurd (omega arith)

pub others_two : (xs ys : RowList) (d : ℕ × Option Placed) → AreRows xs → 2 ≤ length xs →
    ¬ Contains (numbers_of ys) (get_or xs 0 d).0 → ¬ Contains (numbers_of ys) (get_or xs 1 d).0 → AreOthers xs ys
others_two [] ys d are some one two i here = absurd (omega arith)
others_two (x ∷ []) ys d are some one two i here = absurd (omega arith)
others_two (x ∷ y ∷ []) ys d are some one two i (zero, lt, same) =
    subst (λ (n : ℕ). ¬ Contains (numbers_of ys) n) same one
others_two (x ∷ y ∷ []) ys d are some one two i (suc zero, lt, same) =
    subst (λ (n : ℕ). ¬ Contains (numbers_of ys) n) same two
others_two (x ∷ y ∷ []) ys d are some one two i (suc (suc k), lt, same) = absurd (omega arith)
others_two (x ∷ y ∷ z ∷ xs) ys d are some one two i here = absurd are
