-- What a region tells another of an action.
use Rattle.std.specs.Prelude.{ℕ, ◌+◌, [], ◌∷◌, ◌++◌, Bool, false, ◌&&◌, ◌||◌, nat_le, if◌then◌else◌, ⊤, Option, Some, None, IfSome}
use Rattle.event_stamps.specs.declared.Stamp.{Stamp}
use Rattle.cell_grid.specs.Grid.{GridData, IsCell, column_of, strip_start}
use Rattle.region_view.specs.declared.action.Placed.{Placed}
use Rattle.region_view.specs.declared.action.Action.{Action}
use Rattle.region_view.specs.declared.action.Action.TheVariants.{Cross, Hit}
use Rattle.region_view.specs.declared.rows.Message.{Message}
use Rattle.region_view.specs.Placing.{Placing}
use Rattle.region_view.specs.Acting.{stamp_of}
use Rattle.region_view.specs.Setting.{RowList, rows_set}

-- whether the region reaches the cell
abbrev pub reaches : GridData → ℕ → ℕ → Bool
reaches grid region cell =
    nat_le (strip_start grid region) (column_of grid cell + 1)
    && nat_le (column_of grid cell) (strip_start grid (region + 1))

-- whether the region sees what stands there
abbrev pub sees : GridData → ℕ → Option Placed → Bool
sees grid region None = false
sees grid region (Some p) = reaches grid region p.cell

-- what the region sees there
abbrev pub seen_by : GridData → ℕ → Option Placed → Option Placed
seen_by grid region o = if sees grid region o then o else None

-- the row of a touched disk that the region saw before, or sees after
abbrev pub told_row : GridData → ℕ → Placing → ℕ × Option Placed → RowList
told_row grid region before row =
    if sees grid region (before row.0) || sees grid region row.1
    then (row.0, seen_by grid region row.1) ∷ [] else []

-- the same for each of the rows
abbrev pub told_rows : GridData → ℕ → Placing → RowList → RowList
told_rows grid region before [] = []
told_rows grid region before (row ∷ rows) =
    told_row grid region before row ++ told_rows grid region before rows

-- the cell that a crossing records is a cell of the grid
abbrev pub RecordsCell : GridData → Action → Type 0
RecordsCell grid (Cross s cell) = IsCell grid cell
RecordsCell grid (Hit change) = ⊤

-- the cells of these rows are cells of the grid
abbrev pub HaveCells : GridData → RowList → Type 0
HaveCells grid [] = ⊤
HaveCells grid (r ∷ rows) = IfSome r.1 (λ p. IsCell grid p.cell) × HaveCells grid rows

-- without a row there is no message
abbrev pub message_with : Stamp → RowList → Option Message
message_with s [] = None
message_with s (row ∷ rows) = Some (record { stamp = s; rows = row ∷ rows })

-- the message of an action to a region, given the placing before the action
unfoldable pub message_of : GridData → ℕ → Placing → Action → Option Message
message_of grid region before action =
    message_with (stamp_of action) (told_rows grid region before (rows_set before action))
