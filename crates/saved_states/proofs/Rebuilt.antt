-- The views that steps lead back to.
use Rattle.std.proofs.Common.{◌≡◌, ℕ, ◌+◌, ◌-◌, ◌<◌, ◌≤◌, [], ◌∷◌, ◌++◌, length, get_or, take, drop, sym, ap, ◌∙◌, subst, refl, arith}
use Rattle.std.proofs.lemmas.List.{take-append-drop}
use Rattle.region_view.specs.Views.{ViewData, rows_in}
use Rattle.region_view.specs.Setting.{RowList, set_rows, rows_at}
use Rattle.saved_states.specs.Positions.{PositionsRiseAfter, AreSaved, last_pair, EndsWith, IsAfterLast, Appends}
use Rattle.saved_states.specs.Steps.{StepList, RiseAfter, last_position, view_before, views_after, rebuilt}
use Rattle.saved_states.proofs.Undone.{set_back}
use Rattle.saved_states.proofs.First.{step_off}

undone_join : (view : ViewData) (xs ys : StepList) →
    view_before view (xs ++ ys) ≡ view_before (view_before view ys) xs
undone_join view [] ys = refl
undone_join view (step ∷ xs) ys =
    ap (λ (v : ViewData). set_rows v step.1) (undone_join view xs ys)

-- all steps are undone, from the last on
pub undone_parts : (view : ViewData) (n : ℕ) (steps : StepList) →
    view_before view steps ≡ view_before (view_before view (drop n steps)) (take n steps)
undone_parts view n steps =
    ap (view_before view) (sym (take-append-drop n steps))
    ∙ undone_join view (take n steps) (drop n steps)

-- one step more is undone, the one before these
pub undone_more : (view now new : ViewData) (n : ℕ) (steps : StepList) (step : ℕ × RowList) → 0 < n →
    n ≤ length steps → step ≡ get_or steps (n - 1) step → now ≡ view_before view (drop n steps) →
    new ≡ set_rows now step.1 → new ≡ view_before view (drop (n - 1) steps)
undone_more view now new n steps step some within is so_far set =
    let next : n - 1 + 1 ≡ n = omega arith in
    let off = step_off steps (n - 1) step (omega arith) is ∙ ap (λ (k : ℕ). step ∷ drop k steps) next in
    set ∙ ap (λ (v : ViewData). set_rows v step.1) so_far ∙ sym (ap (view_before view) off)

-- ---- the last pair
last_of_later : (first : ℕ) (view : ViewData) (steps : StepList) →
    last_pair (first, view_before view steps) (views_after view steps) ≡ (last_position first steps, view)
last_of_later first view [] = refl
last_of_later first view (step ∷ steps) = last_of_later step.0 view steps

pub ends : (first : ℕ) (view : ViewData) (steps : StepList) →
    EndsWith (rebuilt first view steps) (last_position first steps, view)
ends first view steps = sym (last_of_later first view steps)

pub last_before : (first position : ℕ) (view : ViewData) (steps : StepList) →
    IsAfterLast (rebuilt first view steps) position → last_position first steps < position
last_before first position view steps h =
    subst (λ (pair : ℕ × ViewData). pair.0 < position) (last_of_later first view steps) h

-- ---- positions rise
later_rise : (n : ℕ) (view : ViewData) (steps : StepList) → RiseAfter n steps →
    PositionsRiseAfter n (views_after view steps)
later_rise n view [] r = tt
later_rise n view (step ∷ steps) r = (r.0, later_rise step.0 view steps r.1)

pub are_saved : (first : ℕ) (view : ViewData) (steps : StepList) → RiseAfter first steps →
    AreSaved (rebuilt first view steps)
are_saved first view steps r = later_rise first view steps r

-- ---- one step more
later_push : (old new : ViewData) (steps : StepList) (position : ℕ) (back : RowList) →
    set_rows new back ≡ old →
    views_after new (steps ++ (position, back) ∷ []) ≡ views_after old steps ++ (position, new) ∷ []
later_push old new [] position back is = refl
later_push old new (step ∷ steps) position back is =
    let here : view_before new (steps ++ (position, back) ∷ []) ≡ view_before old steps =
    undone_join new steps ((position, back) ∷ []) ∙ ap (λ (v : ViewData). view_before v steps) is in
    let more = later_push old new steps position back is in
    λ i. (step.0, here i) ∷ more i

rebuilt_push : (first : ℕ) (old new : ViewData) (steps : StepList) (position : ℕ) (back : RowList) →
    set_rows new back ≡ old → rebuilt first new (steps ++ (position, back) ∷ [])
    ≡ rebuilt first old steps ++ (position, new) ∷ []
rebuilt_push first old new steps position back is =
    let here : view_before new (steps ++ (position, back) ∷ []) ≡ view_before old steps =
    undone_join new steps ((position, back) ∷ []) ∙ ap (λ (v : ViewData). view_before v steps) is in
    let more = later_push old new steps position back is in
    λ i. (first, here i) ∷ more i

-- rows are set, and what stood at their numbers is kept to set them back
pub appends : (first : ℕ) (old new : ViewData) (steps : StepList) (position : ℕ)
    (rows back : RowList) → new ≡ set_rows old rows → back ≡ rows_at (rows_in old) rows →
    Appends (rebuilt first old steps) (rebuilt first new (steps ++ (position, back) ∷ [])) position rows
appends first old new steps position rows back is was = (
  (last_position first steps, old),
  ends first old steps,
  rebuilt_push first old new steps position back
      (ap (λ (v : ViewData). set_rows v back) is ∙ ap (set_rows (set_rows old rows)) was
      ∙ set_back old rows)
      ∙ ap (λ (v : ViewData). rebuilt first old steps ++ (position, v) ∷ []) is,
)
