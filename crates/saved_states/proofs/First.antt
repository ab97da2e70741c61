-- The rows of the first view, given the newest one and the rows that lead back from it.
use Rattle.std.proofs.Common.{◌≡◌, ◌≢◌, ℕ, suc, ◌+◌, ◌<◌, Bool, true, false, [], ◌∷◌, ◌++◌, length, get_or, take, drop, sym, ap, ◌∙◌, refl, arith, Option}
use Rattle.std.specs.Prelude.{◌==◌, if◌then◌else◌}
use Rattle.std.specs.FinMap as map
use Rattle.std.proofs.Math.Seq.{take-suc, drop-cons}
use Rattle.region_view.specs.declared.action.Placed.{Placed}
use Rattle.region_view.specs.Views.{ViewData}
use Rattle.region_view.specs.Setting.{RowList, get_over}
use Rattle.region_view.proofs.Puts.{set_rows_are_put_over}
use Rattle.saved_states.specs.Steps.{StepList, view_before}

-- ---- one row more
over_joined : (xs : RowList) (row : ℕ × Option Placed) (i : ℕ) (before : Option Placed) →
    get_over (xs ++ row ∷ []) i before ≡ (if i == row.0 then row.1 else get_over xs i before)
over_joined [] row i before = refl
over_joined (x ∷ xs) row i before = over_joined xs row i (if i == x.0 then x.1 else before)

-- the rows up to one
pub over_next : (rows : RowList) (k : ℕ) (row : ℕ × Option Placed) (i : ℕ) (before : Option Placed) →
    k < length rows → row ≡ get_or rows k row →
    get_over (take (k + 1) rows) i before ≡ (if i == row.0 then row.1 else get_over (take k rows) i before)
over_next rows k row i before lt is =
    let next : k + 1 ≡ suc k = omega arith in
    ap (λ (xs : RowList). get_over xs i before) (ap (λ (n : ℕ). take n rows) next ∙ take-suc rows k row lt
    ∙ ap (λ (r : ℕ × Option Placed). take k rows ++ r ∷ []) (sym is))
    ∙ over_joined (take k rows) row i before

same_number : (i j : ℕ) → i ≡ j → (i == j) ≡ true
same_number i j e = grind arith

other_number : (i j : ℕ) → i ≢ j → (i == j) ≡ false
other_number i j ne = grind arith

pub over_here : (rows : RowList) (k : ℕ) (row : ℕ × Option Placed) (i : ℕ) (before : Option Placed) →
    k < length rows → row ≡ get_or rows k row → row.0 ≡ i → get_over (take (k + 1) rows) i before ≡ row.1
over_here rows k row i before lt is same = over_next rows k row i before lt is
    ∙ ap (λ (b : Bool). if b then row.1 else get_over (take k rows) i before) (same_number i row.0 (sym same))

pub over_elsewhere : (rows : RowList) (k : ℕ) (row : ℕ × Option Placed) (i : ℕ) (before : Option Placed) →
    k < length rows → row ≡ get_or rows k row → row.0 ≢ i →
    get_over (take (k + 1) rows) i before ≡ get_over (take k rows) i before
over_elsewhere rows k row i before lt is other = over_next rows k row i before lt is
    ∙ ap (λ (b : Bool). if b then row.1 else get_over (take k rows) i before)
    (other_number i row.0 (λ e. other (sym e)))

-- ---- one step more
pub step_off : (steps : StepList) (k : ℕ) (step : ℕ × RowList) → k < length steps → step ≡ get_or steps k step →
    drop k steps ≡ step ∷ drop (k + 1) steps
step_off steps k step lt is =
    let next : suc k ≡ k + 1 = omega arith in
    drop-cons steps k step lt ∙ (λ i. sym is i ∷ drop (next i) steps)

-- before a step there is what its rows set, over what is there after it
pub undone_step : (view : ViewData) (steps : StepList) (k : ℕ) (step : ℕ × RowList) (i : ℕ) →
    k < length steps → step ≡ get_or steps k step → map.get (view_before view (drop k steps)) i
    ≡ get_over step.1 i (map.get (view_before view (drop (k + 1) steps)) i)
undone_step view steps k step i lt is =
    ap (λ (s : StepList). map.get (view_before view s) i) (step_off steps k step lt is)
    ∙ set_rows_are_put_over (view_before view (drop (k + 1) steps)) step.1 i
