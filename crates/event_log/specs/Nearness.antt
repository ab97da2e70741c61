-- Entries that have nothing to do with some rows, told by disks and cells.
use Rattle.std.specs.Prelude.{◌≡◌, ◌≢◌, ◌⊎◌, ◌+◌, ◌^◌, ℕ, ◌≤◌, ◌<◌, List, length, slice_get, Option, unwrap_or, IfSome}
use Rattle.event_stamps.specs.declared.Stamp.{Stamp}
use Rattle.cell_grid.specs.Grid.{GridData, IsAdjacent}
use Rattle.region_view.specs.declared.action.Placed.{Placed}
use Rattle.region_view.specs.Setting.{RowList}
use Rattle.region_messages.specs.Trails.{IsAmong}
use Rattle.local_run.specs.Weaving.{IsApart, AreOthers}
use Rattle.event_log.specs.declared.heads.Head.{Head}
use Rattle.event_log.specs.declared.nearness.Side.{Side}
use Rattle.event_log.specs.declared.nearness.Sides.{Sides}
use Rattle.event_log.specs.Logged.{Logged}
use Rattle.event_log.specs.Heads.{NarrowList, row_count, logged}

-- what stands in two rows isn't in adjacent cells
abbrev pub AreAway : GridData → Option Placed → Option Placed → Type 0
AreAway grid one other = IfSome one (λ p. IfSome other (λ q. ¬ IsAdjacent grid p.cell q.cell))

-- an entry has none of the disks of some rows, and the rows that lead back over it are of other disks, and in cells
-- that aren't adjacent to theirs
pub record IsFar (grid : GridData) (rows : RowList) (l : Logged) : Type 0 where
  pub apart : IsApart rows l.0
  pub others : AreOthers rows l.1
  pub away : (row other : ℕ × Option Placed) → IsAmong row l.1 → IsAmong other rows → AreAway grid row.1 other.1

-- ---- how that is told
-- the entry of a head is far, whatever the entries kept whole are
abbrev pub IsFarHead : GridData → RowList → NarrowList → Head → Type 0
IsFarHead grid rows narrow h = (wholes : List Logged) → IsFar grid rows (logged narrow wholes h)

-- the narrow rows of a head are there
abbrev pub HasNarrow : NarrowList → Head → Type 0
HasNarrow narrow h = h.row + row_count h.form ≤ length narrow

-- the items from a place on, up to one that is found or to the end
abbrev pub AllUpTo : {A : Type 0} → (A → Type 0) → List A → ℕ → Option ℕ → Type 0
AllUpTo P xs from found = (k : ℕ) → from ≤ k → k < unwrap_or found (length xs) → IfSome (slice_get xs k) P

-- a row puts its disk at this place
pub record IsPutAt (side : Side) (row : ℕ × Option Placed) : Type 0 where
  pub disk : row.0 ≡ side.disk
  pub cell : IfSome row.1 (λ p. p.cell ≡ side.cell)

-- each row puts its disk at one of the two places
abbrev pub AreSidesOf : Sides → RowList → Type 0
AreSidesOf sides rows = (row : ℕ × Option Placed) → IsAmong row rows →
    IsPutAt sides.first row ⊎ IsPutAt sides.second row

-- no number of a stamp is that of the disk
abbrev pub IsUnnamed : Stamp → Side → Type 0
IsUnnamed s side = (s.first ≢ side.disk) × (s.second ≢ side.disk)

-- no number of a stamp is that of one of the two disks
abbrev pub AreUnnamed : Stamp → Sides → Type 0
AreUnnamed s sides = IsUnnamed s sides.first × IsUnnamed s sides.second

-- a cell is adjacent to neither of the disks'
abbrev pub IsOff : GridData → Sides → ℕ → Type 0
IsOff grid sides cell = (¬ IsAdjacent grid cell sides.first.cell) × (¬ IsAdjacent grid cell sides.second.cell)

-- what stands in a row isn't in a cell that is adjacent to the disks'
abbrev pub IsAwayFrom : GridData → Sides → Option Placed → Type 0
IsAwayFrom grid sides row = IfSome row (λ p. IsOff grid sides p.cell)

-- no cell below the one bound, or above the other, is adjacent to the disks'
abbrev pub BoundCells : GridData → Sides → Type 0
BoundCells grid sides = (cell : ℕ) → cell < 2 ^ 32 → (cell < sides.low) ⊎ (sides.high < cell) → IsOff grid sides cell
