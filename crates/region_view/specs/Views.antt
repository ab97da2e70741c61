-- What a region sees of a state.
use Rattle.std.specs.Prelude.{◌≡◌, ◌↔◌, ℕ, ◌<◌, ◌≤◌, List, slice_index_or, Option, Some, None}
use Rattle.std.specs.Ordering.{nat_cmp}
use Rattle.std.specs.FinMap as map
use Rattle.cell_grid.specs.Grid.{GridData, Reaches}
use Rattle.region_view.specs.declared.action.Placed.{Placed}
use Rattle.region_view.specs.Placing.{Placing}

-- what contracts see of a view: placed disks by number
abbrev pub ViewData : Type 0
ViewData = map.FinMap nat_cmp Placed

-- what stands at each number in a view
abbrev pub rows_in : ViewData → Placing
rows_in view = map.get view

-- the view of a region: exactly the disks whose recorded cells are in its reach
abbrev pub IsViewOf : GridData → ℕ → Placing → ViewData → Type 0
IsViewOf grid region at view = (i : ℕ) (p : Placed) →
    (map.get view i ≡ Some p) ↔ ((at i ≡ Some p) × Reaches grid region p.cell)

-- what stands at each number; past the end nothing does
abbrev pub AreRowsOf : ViewData → List (Option Placed) → Type 0
AreRowsOf view rows = (i : ℕ) → map.get view i ≡ slice_index_or rows i None

-- the row of the least number from this one on, if there is one
abbrev pub IsNextRow : ViewData → ℕ → Option (ℕ × Placed) → Type 0
IsNextRow view from None = (i : ℕ) → from ≤ i → map.get view i ≡ None
IsNextRow view from (Some row) =
    (from ≤ row.0) × (map.get view row.0 ≡ Some row.1)
    × ((i : ℕ) → from ≤ i → i < row.0 → map.get view i ≡ None)
