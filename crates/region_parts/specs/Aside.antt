-- How it is told that entries of a log have nothing to do with the rows of a message.
use Rattle.std.specs.Prelude.{◌≡◌, ◌⊎◌, ℕ, ◌<◌, Option, None, Some, IfSome}
use Rattle.event_stamps.specs.declared.Stamp.{Stamp}
use Rattle.event_stamps.specs.Order.{Before}
use Rattle.cell_grid.specs.Grid.{Owns}
use Rattle.region_view.specs.declared.action.Placed.{Placed}
use Rattle.region_view.specs.Events.{IsNear}
use Rattle.region_view.specs.Setting.{RowList, get_over, AreValidRows, IsValidPlaced}
use Rattle.region_messages.specs.Trails.{IsAmong}
use Rattle.local_run.specs.declared.home.Home.{Home}
use Rattle.local_run.specs.LocalRun.{IsInPlace}
use Rattle.local_run.specs.Weaving.{IsApart, AreOthers}
use Rattle.event_log.specs.Logged.{Logged, logged_stamp}

-- an event of two disks placed like this, which the region runs
abbrev pub IsOwnTouch : Home → ℕ → Placed → ℕ → Placed → Stamp → Type 0
IsOwnTouch h i p j q s = (i < j) × IsNear h.rules h.grid i p j q s × Owns h.grid h.number p.cell

-- the disks in two rows have such an event only after a stamp
abbrev pub TouchAfter : Home → Stamp → ℕ × Option Placed → ℕ × Option Placed → Type 0
TouchAfter h t row other = IfSome row.1 (λ p. IfSome other.1 (λ q. (s : Stamp) →
    IsOwnTouch h row.0 p other.0 q s ⊎ IsOwnTouch h other.0 q row.0 p s → Before t s))

-- the same for each row of one list with each row of the other
abbrev pub AllTouchAfter : Home → Stamp → RowList → RowList → Type 0
AllTouchAfter h t back rows = (row other : ℕ × Option Placed) → IsAmong row back → IsAmong other rows →
    TouchAfter h t row other

-- the rows that lead back over a step are of other disks, and the disks that stood in them touch these only after a
-- stamp
pub record IsStepAside (h : Home) (rows : RowList) (t : Stamp) (back : RowList) : Type 0 where
  pub others : AreOthers rows back
  pub later : AllTouchAfter h t back rows

-- the rows that lead back over an entry are so, up to the entry's stamp
abbrev pub IsLateAside : Home → RowList → Logged → Type 0
IsLateAside h rows l = IsStepAside h rows (logged_stamp l) l.1

-- an entry has nothing to do with the rows
abbrev pub IsOutOfWay : Home → RowList → Logged → Type 0
IsOutOfWay h rows l = IsApart rows l.0 × IsLateAside h rows l

-- what stands in rows that lead back is valid
abbrev pub IsValidBack : Home → RowList → Type 0
IsValidBack h back = (i : ℕ) (p : Placed) → get_over back i None ≡ Some p → IsValidPlaced h.rules h.grid (Some p)

-- rows that may stand in the grid of a region that is in its place
pub record MayStand (h : Home) (rows : RowList) : Type 0 where
  pub place : IsInPlace h
  pub valid : AreValidRows h.rules h.grid rows
