-- The cells in which nobody is told of what happens.
use Rattle.std.specs.Prelude.{◌≡◌, ◌↔◌, ℕ, ◌<◌, ◌≤◌, Option, None, IfSome}
use Rattle.cell_grid.specs.Grid.{IsCell, IsRegion, Reaches, column_of}
use Rattle.region_view.specs.declared.action.Placed.{Placed}
use Rattle.region_view.specs.declared.action.Action.{Action}
use Rattle.region_view.specs.Placing.{Placing}
use Rattle.region_view.specs.Messages.{message_of}
use Rattle.local_run.specs.declared.home.Home.{Home}
use Rattle.local_run.specs.Keeping.{SendsTo}
use Rattle.region_parts.specs.declared.border.Border.{Border}

-- no region but this one reaches the cell
abbrev pub IsFarFromOthers : Home → ℕ → Type 0
IsFarFromOthers h cell = (k : ℕ) → IsRegion h.grid k → Reaches h.grid k cell → k ≡ h.number

-- nor the cell of the disk that stands there, if one does
abbrev pub IsFarRow : Home → Option Placed → Type 0
IsFarRow h row = IfSome row (λ p. IsFarFromOthers h p.cell)

-- the columns are those whose cells are far
abbrev pub IsBorderOf : Home → Border → Type 0
IsBorderOf h border = (cell : ℕ) → IsCell h.grid cell →
    (((border.first ≤ column_of h.grid cell) × (column_of h.grid cell < border.end)) ↔ IsFarFromOthers h cell)

-- nobody is sent a message of the action
abbrev pub IsUntold : Home → Placing → Action → Type 0
IsUntold h at action = (to : ℕ) → SendsTo h to → message_of h.grid to at action ≡ None
