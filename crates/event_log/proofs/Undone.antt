-- Entries that are undone.
use Rattle.std.proofs.Common.{◌≡◌, ℕ, zero, suc, ◌<◌, ◌≤◌, ◌==◌, Bool, true, false, List, [], ◌∷◌, length, drop, slice_get, sym, ap, ◌∙◌, refl, arith, Option, Some, None}
use Rattle.std.specs.Prelude.{if◌then◌else◌, unwrap_or}
use Rattle.std.specs.FinMap as finmap
use Rattle.std.proofs.lemmas.Option.{none-some, same_Some}
use Rattle.region_view.specs.declared.action.Placed.{Placed}
use Rattle.region_view.specs.Views.{ViewData}
use Rattle.region_view.specs.Setting.{RowList, set_rows, get_over}
use Rattle.region_view.proofs.Puts.{swap_is_undone, set_rows_are_put_over}
use Rattle.event_log.specs.Logged.{Logged, backs_in, sets, setters_in}
use Rattle.event_log.specs.Undoing.{rows_by, view_with, undone, first_found, BaseIsUndone, FirstsAreFound}

pub base_is_undone : BaseIsUndone
base_is_undone base [] h = refl
base_is_undone base (l ∷ log) h =
    ap (λ (v : ViewData). set_rows v l.1) (base_is_undone (view_with base l) log h.1)
    ∙ ap (set_rows (view_with base l)) h.0
    ∙ swap_is_undone base (rows_by base l.0)

turned : (i j : ℕ) → (i == j) ≡ (j == i)
turned i j = grind arith

-- rows that set a disk say what stands there, whatever stood there before
pub sets_over : (disk : ℕ) (rows : RowList) (x y : Option Placed) → sets disk rows ≡ true →
    get_over rows disk x ≡ get_over rows disk y
sets_over disk [] x y e = absurd (false_true e)
  where
    false_true : false ≡ true → ⊥
    false_true h = cc
sets_over disk (r ∷ rows) x y e = by_test (λ u v s. sets_over disk rows u v s) (r.0 == disk) refl
  where
    by_test : ((u v : Option Placed) → sets disk rows ≡ true → get_over rows disk u ≡ get_over rows disk v) →
        (b : Bool) → (r.0 == disk) ≡ b →
        get_over rows disk (if disk == r.0 then r.1 else x) ≡ get_over rows disk (if disk == r.0 then r.1 else y)
    by_test rest true is = rw (turned disk r.0, is) refl
    by_test rest false is =
        rest (if disk == r.0 then r.1 else x) (if disk == r.0 then r.1 else y) (rw is at e)

-- and others leave it
pub others_over : (disk : ℕ) (rows : RowList) (x : Option Placed) → sets disk rows ≡ false →
    get_over rows disk x ≡ x
others_over disk [] x e = refl
others_over disk (r ∷ rows) x e = by_test (λ s. others_over disk rows x s) (r.0 == disk) refl
  where
    true_false : true ≡ false → ⊥
    true_false h = cc

    by_test : (sets disk rows ≡ false → get_over rows disk x ≡ x) → (b : Bool) → (r.0 == disk) ≡ b →
        get_over rows disk (if disk == r.0 then r.1 else x) ≡ x
    by_test rest true is = absurd (true_false (rw is at e))
    by_test rest false is = rw (turned disk r.0, is) (rest (rw is at e))

pub firsts_are_found : FirstsAreFound
firsts_are_found newest [] disk = refl
firsts_are_found newest (back ∷ backs) disk =
    set_rows_are_put_over (undone newest backs) back disk
    ∙ ap (get_over back disk) (firsts_are_found newest backs disk)
    ∙ by_test (sets disk back) refl
  where
    by_test : (b : Bool) → sets disk back ≡ b →
        get_over back disk (unwrap_or (first_found disk backs) (finmap.get newest disk))
        ≡ unwrap_or (if b then Some (get_over back disk None) else first_found disk backs) (finmap.get newest disk)
    by_test true is = sets_over disk back (unwrap_or (first_found disk backs) (finmap.get newest disk)) None is
    by_test false is = others_over disk back (unwrap_or (first_found disk backs) (finmap.get newest disk)) is

-- ---- looking for the first
-- no entry before a place sets the disk
pub passed : (newest : ViewData) (disk i : ℕ) (log : List Logged) →
    ((k : ℕ) → k < i → slice_get (setters_in disk log) k ≡ Some false) →
    finmap.get (undone newest (backs_in log)) disk ≡ finmap.get (undone newest (drop i (backs_in log))) disk
passed newest disk zero log none = refl
passed newest disk (suc i) [] none = refl
passed newest disk (suc i) (l ∷ log) none =
    set_rows_are_put_over (undone newest (backs_in log)) l.1 disk
    ∙ others_over disk l.1 (finmap.get (undone newest (backs_in log)) disk) (same_Some (sets disk l.1) false (none 0 (omega arith)))
    ∙ passed newest disk i log (λ k lt. none (suc k) (omega arith))

-- the first entry that sets it, if there is one
pub found_at : (newest : ViewData) (disk i : ℕ) (log : List Logged) (back : RowList) →
    ((k : ℕ) → k < i → slice_get (setters_in disk log) k ≡ Some false) →
    slice_get (setters_in disk log) i ≡ Some true → slice_get (backs_in log) i ≡ Some back →
    finmap.get (undone newest (backs_in log)) disk ≡ get_over back disk None
found_at newest disk i log back none here is =
    passed newest disk i log none ∙ by_rest i log here is
  where
    by_rest : (j : ℕ) (rest : List Logged) → slice_get (setters_in disk rest) j ≡ Some true →
        slice_get (backs_in rest) j ≡ Some back →
        finmap.get (undone newest (drop j (backs_in rest))) disk ≡ get_over back disk None
    by_rest j [] s e = absurd (none-some true s)
    by_rest zero (l ∷ rest) s e =
        set_rows_are_put_over (undone newest (backs_in rest)) l.1 disk
        ∙ sets_over disk l.1 (finmap.get (undone newest (backs_in rest)) disk) None (same_Some (sets disk l.1) true s)
        ∙ ap (λ (b : RowList). get_over b disk None) (same_Some l.1 back e)
    by_rest (suc j) (l ∷ rest) s e = by_rest j rest s e

pub none_found : (newest : ViewData) (disk i : ℕ) (log : List Logged) → length log ≤ i →
    ((k : ℕ) → k < i → slice_get (setters_in disk log) k ≡ Some false) →
    finmap.get (undone newest (backs_in log)) disk ≡ finmap.get newest disk
none_found newest disk i log le none = none_of log (λ k lt. none k (omega arith))
  where
    none_of : (rest : List Logged) → ((k : ℕ) → k < length rest → slice_get (setters_in disk rest) k ≡ Some false) →
        finmap.get (undone newest (backs_in rest)) disk ≡ finmap.get newest disk
    none_of [] h = refl
    none_of (l ∷ rest) h =
        set_rows_are_put_over (undone newest (backs_in rest)) l.1 disk
        ∙ others_over disk l.1 (finmap.get (undone newest (backs_in rest)) disk)
        (same_Some (sets disk l.1) false (h 0 (omega arith)))
        ∙ none_of rest (λ k lt. h (suc k) (omega arith))

-- whether it sets the disk is whether its rows do
pub sets_at : (disk i : ℕ) (log : List Logged) (back : RowList) → slice_get (backs_in log) i ≡ Some back →
    slice_get (setters_in disk log) i ≡ Some (sets disk back)
sets_at disk i [] back is = absurd (none-some back is)
sets_at disk zero (l ∷ log) back is = ap (λ (b : RowList). Some (sets disk b)) (same_Some l.1 back is)
sets_at disk (suc i) (l ∷ log) back is = sets_at disk i log back is

-- its rows set the disk
pub back_sets : (disk i : ℕ) (log : List Logged) (back : RowList) →
    slice_get (setters_in disk log) i ≡ Some true → slice_get (backs_in log) i ≡ Some back →
    sets disk back ≡ true
back_sets disk i [] back s e = absurd (none-some true s)
back_sets disk zero (l ∷ log) back s e =
    ap (sets disk) (sym (same_Some l.1 back e)) ∙ same_Some (sets disk l.1) true s
back_sets disk (suc i) (l ∷ log) back s e = back_sets disk i log back s e
