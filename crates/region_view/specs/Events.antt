-- Which events disks that are placed have, by themselves and with each other.
use Rattle.std.specs.Prelude.{◌⊎◌, ℕ, Option}
use Rattle.fixed_motion.specs.declared.rules.Rules.{Rules}
use Rattle.fixed_motion.specs.declared.disk.Disk.{Disk}
use Rattle.event_stamps.specs.declared.Stamp.{Stamp}
use Rattle.event_stamps.specs.declared.Kind.{Kind}
use Rattle.event_stamps.specs.declared.Kind.TheVariants.{Cross, Wall, Pair}
use Rattle.event_rules.specs.Events.{IsWallEvent, IsPairEvent, IsEventOf}
use Rattle.cell_grid.specs.Grid.{GridData, IsAdjacent}
use Rattle.cell_grid.specs.Crossing.{IsCrossEvent}
use Rattle.region_view.specs.declared.action.Placed.{Placed}

-- disk i leaves its recorded cell, or hits a side
abbrev pub IsAlone : Rules → GridData → ℕ → Placed → Stamp → Type 0
IsAlone rules grid i p s = IsCrossEvent rules grid i p.disk p.cell s
    ⊎ IsWallEvent rules i p.disk s.second s

-- disks i and j, whose recorded cells are adjacent, hit each other
abbrev pub IsNear : Rules → GridData → ℕ → Placed → ℕ → Placed → Stamp → Type 0
IsNear rules grid i p j q s = IsAdjacent grid p.cell q.cell × IsPairEvent rules i p.disk j q.disk s

-- the stamp, of this kind, is that of an event of the placed disk, and of another one if there is one
abbrev pub IsEventBy : Rules → GridData → Stamp → Placed → Option Disk → Kind → Type 0
IsEventBy rules grid s p b Cross = IsCrossEvent rules grid s.first p.disk p.cell s
IsEventBy rules grid s p b Wall = IsEventOf rules s p.disk b
IsEventBy rules grid s p b Pair = IsEventOf rules s p.disk b
