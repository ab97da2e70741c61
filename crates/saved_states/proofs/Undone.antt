-- Rows that are set in a view and set back.
use Rattle.std.proofs.Common.{◌≡◌, ◌≢◌, ◌⊎◌, inl, inr, ℕ, Bool, true, false, [], ◌∷◌, sym, ap, ◌∙◌, refl, arith, Option, Some, None}
use Rattle.std.specs.Prelude.{cond}
use Rattle.std.specs.Ordering.{nat_cmp, eq_by_cmp}
use Rattle.std.specs.Cmp.{nat_cmp_total}
use Rattle.std.specs.FinMap as map
use Rattle.std.specs.FinMap.{get-insert, get-remove, same_map, nat_cmp-IsAntisymmetric}
use Rattle.std.proofs.lemmas.Bool.{cases_eq}
use Rattle.region_view.specs.declared.action.Placed.{Placed}
use Rattle.region_view.specs.Views.{ViewData, rows_in}
use Rattle.region_view.specs.Setting.{RowList, put, set_rows, rows_at}

-- one of the rows has this number
abbrev HasRow : ℕ → RowList → Type 0
HasRow i [] = ⊥
HasRow i (row ∷ rows) = (i ≡ row.0) ⊎ HasRow i rows

get_put : (view : ViewData) (i : ℕ) (row : Option Placed) (j : ℕ) →
    map.get (put view i row) j ≡ cond (eq_by_cmp nat_cmp j i) row (map.get view j)
get_put view i None j = get-remove nat_cmp_total view i j
get_put view i (Some p) j = get-insert nat_cmp_total view i p j

get_put_here : (view : ViewData) (i : ℕ) (row : Option Placed) → map.get (put view i row) i ≡ row
get_put_here view i row = get_put view i row i
    ∙ ap (λ (b : Bool). cond b row (map.get view i)) (same i)
  where
    same : (n : ℕ) → eq_by_cmp nat_cmp n n ≡ true
    same n = grind arith

get_put_other : (view : ViewData) (i : ℕ) (row : Option Placed) (j : ℕ) → j ≢ i →
    map.get (put view i row) j ≡ map.get view j
get_put_other view i row j ne = get_put view i row j
    ∙ ap (λ (b : Bool). cond b row (map.get view j)) (other i j ne)
  where
    other : (i j : ℕ) → j ≢ i → eq_by_cmp nat_cmp j i ≡ false
    other i j ne = grind arith

get_other : (rows : RowList) (view : ViewData) (i : ℕ) → ¬ HasRow i rows →
    map.get (set_rows view rows) i ≡ map.get view i
get_other [] view i not = refl
get_other (row ∷ rows) view i not =
    get_other rows (put view row.0 row.1) i (λ h. not (inr h))
    ∙ get_put_other view row.0 row.1 i (λ e. not (inl e))

-- a view that differs from another only at the numbers of these rows
get_back : (rows : RowList) (view other : ViewData) →
    ((i : ℕ) → ¬ HasRow i rows → map.get other i ≡ map.get view i) → (i : ℕ) →
    map.get (set_rows other (rows_at (rows_in view) rows)) i ≡ map.get view i
get_back [] view other same i = same i (λ h. h)
get_back (row ∷ rows) view other same i =
    get_back rows view (put other row.0 (map.get view row.0)) still i
  where
    still : (j : ℕ) → ¬ HasRow j rows →
        map.get (put other row.0 (map.get view row.0)) j ≡ map.get view j
    still j not = elim (cases_eq j row.0) [
      | inl e ↦ ap (map.get (put other row.0 (map.get view row.0))) e
          ∙ get_put_here other row.0 (map.get view row.0) ∙ ap (map.get view) (sym e)
      | inr ne ↦ get_put_other other row.0 (map.get view row.0) j ne
          ∙ same j (λ h. elim h [ inl e ↦ ne e | inr k ↦ not k ])
    ]

-- what stood at the numbers of the rows, set after them, gives the view before
pub set_back : (view : ViewData) (rows : RowList) →
    set_rows (set_rows view rows) (rows_at (rows_in view) rows) ≡ view
set_back view rows =
    same_map nat_cmp_total nat_cmp-IsAntisymmetric
    (set_rows (set_rows view rows) (rows_at (rows_in view) rows)) view
    (get_back rows view (set_rows view rows) (λ j not. get_other rows view j not))
