-- Views that are the same except at the numbers of some rows.
use Rattle.std.proofs.Common.{◌≡◌, ◌≢◌, ℕ, suc, ◌<◌, ◌≤◌, Bool, false, List, [], ◌∷◌, ◌==◌, length, get_or, refl, sym, ap, subst, ◌∙◌, arith, Option}
use Rattle.std.specs.Prelude.{if◌then◌else◌}
use Rattle.std.specs.List.{Contains}
use Rattle.region_view.specs.declared.action.Placed.{Placed}
use Rattle.region_view.specs.Views.{ViewData, rows_in}
use Rattle.region_view.specs.Setting.{RowList, AreRows, set_rows, get_over, numbers_of}
use Rattle.region_view.proofs.Puts.{set_rows_are_put_over}
use Rattle.region_view.specs.Naming.{IsSameBut}

other_number : (i j : ℕ) → i ≢ j → (i == j) ≡ false
other_number i j other = grind arith

pub over_others : (rows : RowList) (i : ℕ) (before : Option Placed) → ¬ Contains (numbers_of rows) i →
    get_over rows i before ≡ before
over_others [] i before none = refl
over_others (r ∷ rows) i before none =
    ap (λ (b : Bool). get_over rows i (if b then r.1 else before))
    (other_number i r.0 (λ same. none (0, omega arith, sym same)))
    ∙ over_others rows i before (λ has. none (suc has.0, omega (arith, has.1), has.2))

pub same_but : (before : ViewData) (rows : RowList) →
    IsSameBut (numbers_of rows) before (set_rows before rows)
same_but before rows = λ i none.
    set_rows_are_put_over before rows i ∙ over_others rows i (rows_in before i) none

-- ---- a slice of rows
pub no_number : (rows : RowList) → length rows < 1 → numbers_of rows ≡ []
no_number [] few = refl
no_number (r ∷ rows) few = absurd (omega arith)

pub one_number : (rows : RowList) (d : ℕ × Option Placed) → 1 ≤ length rows → length rows < 2 →
    numbers_of rows ≡ (get_or rows 0 d).0 ∷ []
one_number [] d some few = absurd (omega arith)
one_number (r ∷ []) d some few = refl
one_number (r ∷ s ∷ rows) d some few = absurd (omega arith)

pub two_numbers : (rows : RowList) (d : ℕ × Option Placed) → AreRows rows → 2 ≤ length rows →
    numbers_of rows ≡ (get_or rows 0 d).0 ∷ (get_or rows 1 d).0 ∷ []
two_numbers [] d are some = absurd (omega arith)
two_numbers (r ∷ []) d are some = absurd (omega arith)
two_numbers (r ∷ s ∷ []) d are some = refl
two_numbers (r ∷ s ∷ t ∷ rows) d are some = absurd are

-- the numbers of a slice are those of its rows
pub same_but_at : (before view : ViewData) (rows slice : RowList) (ids : List ℕ) → slice ≡ rows →
    numbers_of slice ≡ ids → IsSameBut (numbers_of rows) before view → IsSameBut ids before view
same_but_at before view rows slice ids here numbers is =
    subst (λ (v : List ℕ). IsSameBut v before view) (ap numbers_of (sym here) ∙ numbers) is
