-- Rows that are set or taken away, and the view after that.
use Rattle.std.specs.Prelude.{◌≡◌, ℕ, ◌<◌, ◌==◌, if◌then◌else◌, List, [], ◌∷◌, map as each, fold, take, length, ⊤, Option, Some, None, IfSome}
use Rattle.std.specs.FinMap as map
use Rattle.fixed_motion.specs.declared.rules.Rules.{Rules}
use Rattle.fixed_motion.specs.Motion.{IsValidDisk}
use Rattle.cell_grid.specs.Grid.{GridData, IsCell}
use Rattle.region_view.specs.declared.action.Placed.{Placed}
use Rattle.region_view.specs.declared.action.Action.{Action}
use Rattle.region_view.specs.declared.action.Action.TheVariants.{Cross, Hit}
use Rattle.region_view.specs.Placing.{Placing}
use Rattle.region_view.specs.Views.{ViewData, rows_in}
use Rattle.region_view.specs.Acting.{new_rows}

-- what stands at some numbers, or that nothing does
abbrev pub RowList : Type 0
RowList = List (ℕ × Option Placed)

-- at most two, the lesser number first
abbrev pub AreRows : RowList → Type 0
AreRows [] = ⊤
AreRows (r ∷ []) = ⊤
AreRows (r ∷ s ∷ []) = r.0 < s.0
AreRows (r ∷ s ∷ t ∷ rows) = ⊥

-- the numbers of some rows
abbrev pub numbers_of : RowList → List ℕ
numbers_of rows = each (λ r. r.0) rows

-- the view once a placed disk, or nothing, stands at a number
abbrev pub put : ViewData → ℕ → Option Placed → ViewData
put view i None = map.remove view i
put view i (Some p) = map.insert view i p

-- the view with one row set
abbrev pub set_row : ViewData → ℕ × Option Placed → ViewData
set_row view row = put view row.0 row.1

-- the view with these rows set
abbrev pub set_rows : ViewData → RowList → ViewData
set_rows view rows = fold set_row view rows

-- what stands at the numbers of these rows
abbrev pub rows_at : Placing → RowList → RowList
rows_at at rows = each (λ r. (r.0, at r.0)) rows

-- the rows that an action sets
abbrev pub rows_set : Placing → Action → RowList
rows_set at action = each (λ r. (r.0, Some r.1)) (new_rows at action)

-- what stands at a number once these rows are put over what stood there
abbrev pub get_over : RowList → ℕ → Option Placed → Option Placed
get_over [] i before = before
get_over (r ∷ rows) i before = get_over rows i (if i == r.0 then r.1 else before)

-- the placing with these rows put over
abbrev pub put_over : Placing → RowList → Placing
put_over at rows i = get_over rows i (at i)

-- if both rows are there, the lesser number comes first
abbrev pub AreInOrder : Option (ℕ × Option Placed) → Option (ℕ × Option Placed) → Type 0
AreInOrder None second = ⊤
AreInOrder (Some r) None = ⊤
AreInOrder (Some r) (Some s) = r.0 < s.0

-- the view after an action
abbrev pub after_action : ViewData → Action → ViewData
after_action view action = set_rows view (rows_set (rows_in view) action)

-- what stands there, if anything, has a valid record and a cell of the grid
abbrev pub IsValidPlaced : Rules → GridData → Option Placed → Type 0
IsValidPlaced rules grid None = ⊤
IsValidPlaced rules grid (Some p) = IsValidDisk rules p.disk × IsCell grid p.cell

-- numbers of disks, valid records, and cells of the grid
abbrev pub AreValidRows : Rules → GridData → RowList → Type 0
AreValidRows rules grid [] = ⊤
AreValidRows rules grid (r ∷ rows) =
    (r.0 < 65536) × IsValidPlaced rules grid r.1 × AreValidRows rules grid rows

-- if a collision changes two disks, the lesser number comes first
abbrev pub IsInOrder : Action → Type 0
IsInOrder (Cross s cell) = ⊤
IsInOrder (Hit change) = IfSome change.second (λ _. change.stamp.first < change.stamp.second)

-- ---- how rows are kept
-- what stands in room without a row
abbrev pub nothing : ℕ × Option Placed
nothing = (0, None)

-- the rows, with fillers up to two
abbrev pub filled : RowList → RowList
filled [] = nothing ∷ nothing ∷ []
filled (r ∷ []) = r ∷ nothing ∷ []
filled (r ∷ s ∷ rows) = r ∷ s ∷ []

-- the first `used` of the items are rows in use
pub record AreRowsInUse (items : RowList) (used : ℕ) : Type 0 where
  pub rows : AreRows (take used items)
  pub few : used ≡ length (take used items)
  pub filled : items ≡ filled (take used items)
