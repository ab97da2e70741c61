-- Views that are kept as the newest one and the rows that lead back from it.
use Rattle.std.specs.Prelude.{ℕ, ◌<◌, List, [], ◌∷◌, ⊤}
use Rattle.region_view.specs.Views.{ViewData}
use Rattle.region_view.specs.Setting.{RowList, set_rows}
use Rattle.saved_states.specs.Positions.{SavedData}

-- positions, and the rows that lead from each one position back
abbrev pub StepList : Type 0
StepList = List (ℕ × RowList)

-- positions rise strictly, all after one
abbrev pub RiseAfter : ℕ → StepList → Type 0
RiseAfter n [] = ⊤
RiseAfter n (step ∷ steps) = (n < step.0) × RiseAfter step.0 steps

-- the position of the last step; if there are no steps, the first one
abbrev pub last_position : ℕ → StepList → ℕ
last_position first [] = first
last_position first (step ∷ steps) = last_position step.0 steps

-- the view before the steps that led to this one
abbrev pub view_before : ViewData → StepList → ViewData
view_before view [] = view
view_before view (step ∷ steps) = set_rows (view_before view steps) step.1

-- the view after each step
abbrev pub views_after : ViewData → StepList → SavedData
views_after view [] = []
views_after view (step ∷ steps) = (step.0, view_before view steps) ∷ views_after view steps

-- the first view, before all steps, and those after it
abbrev pub rebuilt : ℕ → ViewData → StepList → SavedData
rebuilt first view steps = (first, view_before view steps) ∷ views_after view steps
