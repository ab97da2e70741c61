-- Rows that are put in a view.
use Rattle.std.proofs.Common.{◌≡◌, ◌≢◌, ℕ, ◌==◌, [], ◌∷◌, Bool, true, false, sym, ap, ◌∙◌, refl, arith, Option, Some, None}
use Rattle.std.specs.Prelude.{if◌then◌else◌}
use Rattle.std.proofs.lemmas.Bool.{eqb-true, eq-eqb, ne_eqb}
use Rattle.std.specs.Ordering.{nat_cmp, eq_by_cmp}
use Rattle.std.specs.Cmp.{nat_cmp_total}
use Rattle.std.specs.FinMap as map
use Rattle.std.specs.FinMap.{get-insert, get-remove, same_map, nat_cmp-IsAntisymmetric}
use Rattle.region_view.specs.declared.action.Placed.{Placed}
use Rattle.region_view.specs.Views.{ViewData}
use Rattle.region_view.specs.Placing.{Placing}
use Rattle.region_view.specs.Setting.{RowList, put, set_row, set_rows, rows_at, get_over}
use Rattle.region_view.specs.Laws.{SetRowsArePutOver, SwapIsUndone}

-- two views with the same rows are equal
pub same_view : (v w : ViewData) → ((i : ℕ) → map.get v i ≡ map.get w i) → v ≡ w
same_view v w same = same_map nat_cmp_total nat_cmp-IsAntisymmetric v w same

same_test : (j i : ℕ) → eq_by_cmp nat_cmp j i ≡ (j == i)
same_test j i = grind arith

pub get_put : (view : ViewData) (i : ℕ) (row : Option Placed) (j : ℕ) →
    map.get (put view i row) j ≡ (if j == i then row else map.get view j)
get_put view i None j = get-remove nat_cmp_total view i j
    ∙ ap (λ (b : Bool). if b then None else map.get view j) (same_test j i)
get_put view i (Some p) j = get-insert nat_cmp_total view i p j
    ∙ ap (λ (b : Bool). if b then Some p else map.get view j) (same_test j i)

pub is_same : (j i : ℕ) → (j == i) ≡ true → j ≡ i
is_same j i e = eqb-true j i e

pub same_is : (j i : ℕ) → j ≡ i → (j == i) ≡ true
same_is j i e = eq-eqb j i e

pub not_same : (j i : ℕ) → j ≢ i → (j == i) ≡ false
not_same j i ne = ne_eqb j i ne

pub get_put_here : (view : ViewData) (i : ℕ) (row : Option Placed) → map.get (put view i row) i ≡ row
get_put_here view i row = get_put view i row i
    ∙ ap (λ (b : Bool). if b then row else map.get view i) (same_is i i refl)

pub get_put_other : (view : ViewData) (i : ℕ) (row : Option Placed) (j : ℕ) → j ≢ i →
    map.get (put view i row) j ≡ map.get view j
get_put_other view i row j ne = get_put view i row j
    ∙ ap (λ (b : Bool). if b then row else map.get view j) (not_same j i ne)

-- ---- rows that are set
pub set_rows_are_put_over : SetRowsArePutOver
set_rows_are_put_over view [] i = refl
set_rows_are_put_over view (r ∷ rows) i =
    set_rows_are_put_over (set_row view r) rows i ∙ ap (get_over rows i) (get_put view r.0 r.1 i)

-- what stood there put over what stood there
kept_over : (at : Placing) (rows : RowList) (i : ℕ) → get_over (rows_at at rows) i (at i) ≡ at i
kept_over at [] i = refl
kept_over at (r ∷ rows) i =
    ap (get_over (rows_at at rows) i) (by_test (i == r.0) refl) ∙ kept_over at rows i
  where
    by_test : (b : Bool) → (i == r.0) ≡ b → (if b then at r.0 else at i) ≡ at i
    by_test true e = ap at (sym (is_same i r.0 e))
    by_test false e = refl

-- and over the rows themselves
undone_over : (at : Placing) (rows : RowList) (i : ℕ) (o : Option Placed) → o ≡ at i →
    get_over (rows_at at rows) i (get_over rows i o) ≡ at i
undone_over at [] i o e = e
undone_over at (r ∷ rows) i o e = by_test (undone_over at rows i o e) (i == r.0) refl
  where
    by_test : get_over (rows_at at rows) i (get_over rows i o) ≡ at i → (b : Bool) →
        (i == r.0) ≡ b →
        get_over (rows_at at rows) i
        (if b then at r.0 else get_over rows i (if b then r.1 else o)) ≡ at i
    by_test rest true is =
        ap (get_over (rows_at at rows) i) (ap at (sym (is_same i r.0 is))) ∙ kept_over at rows i
    by_test rest false is = rest

pub swap_is_undone : SwapIsUndone
swap_is_undone view rows =
    let before = rows_at (map.get view) rows in
    same_view (set_rows (set_rows view rows) before) view (λ i.
    set_rows_are_put_over (set_rows view rows) before i
    ∙ ap (get_over before i) (set_rows_are_put_over view rows i)
    ∙ undone_over (map.get view) rows i (map.get view i) refl)
