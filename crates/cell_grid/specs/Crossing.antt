-- When a disk leaves its recorded cell.
use Rattle.std.specs.Prelude.{◌≡◌, ℕ, ◌<◌, ◌≤◌}
use Rattle.plane_vectors.specs.declared.Vector.{Vector}
use Rattle.fixed_motion.specs.declared.rules.Rules.{Rules}
use Rattle.fixed_motion.specs.declared.disk.Disk.{Disk}
use Rattle.fixed_motion.specs.Motion.{IsInside, place_of, mark_at}
use Rattle.event_stamps.specs.declared.Stamp.{Stamp}
use Rattle.event_stamps.specs.declared.Kind.TheVariants.{Cross}
use Rattle.cell_grid.specs.Grid.{GridData, cell_at}

-- at this place the disk is inside the box and in the cell
abbrev pub IsInCell : Rules → GridData → Disk → ℕ → Vector → Type 0
IsInCell rules grid a cell place = IsInside rules a place × (cell_at grid place ≡ cell)

-- a disk that keeps its course is in the cell at no tick from this one on
abbrev pub HasLeft : Rules → GridData → Disk → ℕ → ℕ → Type 0
HasLeft rules grid a cell tick = (t : ℕ) → tick ≤ t → ¬ IsInCell rules grid a cell (place_of a t)

-- the first tick, from the base tick on, at which the disk has left its recorded cell;
-- it may have entered the cell after its base tick, or never
pub record IsLeavingTick (rules : Rules) (grid : GridData) (a : Disk) (cell tick : ℕ) : Type 0 where
  pub base : a.base ≤ tick
  pub left : HasLeft rules grid a cell tick
  pub first : (t : ℕ) → a.base ≤ t → t < tick → ¬ HasLeft rules grid a cell t

-- the leaving tick, if the disk is inside the box then
pub record IsCrossTick (rules : Rules) (grid : GridData) (a : Disk) (cell tick : ℕ) : Type 0 where
  pub leaving : IsLeavingTick rules grid a cell tick
  pub inside : IsInside rules a (place_of a tick)

-- the stamp of a disk's leaving its cell at a tick
abbrev pub cross_stamp : ℕ → Disk → ℕ → Stamp
cross_stamp disk a tick = record { tick = tick; round = mark_at a tick; kind = Cross; first = disk; second = 0 }

-- the stamp is that of the disk's leaving the cell, before the end
abbrev pub IsCrossEvent : Rules → GridData → ℕ → Disk → ℕ → Stamp → Type 0
IsCrossEvent rules grid disk a cell s =
    IsCrossTick rules grid a cell s.tick × (s.tick < rules.end) × (s ≡ cross_stamp disk a s.tick)
