-- The events that placed disks may have next.
use Rattle.std.specs.Prelude.{◌≡◌, ◌⊎◌, ℕ, ◌<◌, Option, Some}
use Rattle.fixed_motion.specs.declared.rules.Rules.{Rules}
use Rattle.fixed_motion.specs.Motion.{IsValidDisk}
use Rattle.event_stamps.specs.declared.Stamp.{Stamp}
use Rattle.event_rules.specs.Events.{IsWallEvent, IsPairEvent}
use Rattle.cell_grid.specs.Grid.{GridData, IsCell, IsAdjacent, Owns}
use Rattle.cell_grid.specs.Crossing.{IsCrossEvent}
use Rattle.region_view.specs.declared.action.Placed.{Placed}

-- what stands at each number: a state of a cell run by slice_get, a view by its map's get
abbrev pub Placing : Type 0
Placing = ℕ → Option Placed

-- a disk leaves its recorded cell
abbrev pub IsCrossCandidate : Rules → GridData → Placing → Stamp → Type 0
IsCrossCandidate rules grid at s = (p : Placed) × (at s.first ≡ Some p)
    × IsCrossEvent rules grid s.first p.disk p.cell s

-- a disk hits a side of the box
abbrev pub IsPlacedWall : Rules → Placing → Stamp → Type 0
IsPlacedWall rules at s = (p : Placed) × (at s.first ≡ Some p)
    × IsWallEvent rules s.first p.disk s.second s

-- two disks whose recorded cells are adjacent hit each other
abbrev pub IsNearPair : Rules → GridData → Placing → Stamp → Type 0
IsNearPair rules grid at s = (s.first < s.second) × ((p : Placed) × (at s.first ≡ Some p)
    × ((q : Placed) × (at s.second ≡ Some q) × IsAdjacent grid p.cell q.cell
    × IsPairEvent rules s.first p.disk s.second q.disk s))

-- an event that placed disks may have next
abbrev pub IsCellCandidate : Rules → GridData → Placing → Stamp → Type 0
IsCellCandidate rules grid at s = IsCrossCandidate rules grid at s
    ⊎ (IsPlacedWall rules at s ⊎ IsNearPair rules grid at s)

-- the region that owns the recorded cell of the event's first disk
abbrev pub IsHome : GridData → Placing → ℕ → Stamp → Type 0
IsHome grid at region s = (p : Placed) × (at s.first ≡ Some p) × Owns grid region p.cell

-- the candidates that a region runs itself
abbrev pub IsNative : Rules → GridData → ℕ → Placing → Stamp → Type 0
IsNative rules grid region at s = IsCellCandidate rules grid at s × IsHome grid at region s

-- valid rows: numbers of disks, valid records, and cells of the grid
pub record IsValidPlacing (rules : Rules) (grid : GridData) (at : Placing) : Type 0 where
  pub number : (i : ℕ) (p : Placed) → at i ≡ Some p → i < 65536
  pub disk : (i : ℕ) (p : Placed) → at i ≡ Some p → IsValidDisk rules p.disk
  pub cell : (i : ℕ) (p : Placed) → at i ≡ Some p → IsCell grid p.cell
