-- How a disk leaves its recorded cell after its base tick.
use Rattle.std.specs.Prelude.{◌≡◌, ℕ, ◌<◌}
use Rattle.fixed_motion.specs.declared.rules.Rules.{Rules}
use Rattle.fixed_motion.specs.declared.disk.Disk.{Disk}
use Rattle.event_stamps.specs.declared.Stamp.{Stamp}
use Rattle.event_stamps.specs.declared.Kind.TheVariants.{Cross}
use Rattle.event_stamps.specs.Least.{HasNone, IsOnly}
use Rattle.cell_grid.specs.declared.later.Departure.{Departure}
use Rattle.cell_grid.specs.declared.later.Departure.TheVariants.{At, Never, Unknown}
use Rattle.cell_grid.specs.Grid.{GridData}
use Rattle.cell_grid.specs.Crossing.{IsLeavingTick, IsCrossEvent}

-- the leaving tick, after the base tick
abbrev pub IsLaterTick : Rules → GridData → Disk → ℕ → ℕ → Type 0
IsLaterTick rules grid a cell tick = IsLeavingTick rules grid a cell tick × (a.base < tick)

-- no leaving tick is after the base tick
abbrev pub LeavesEarly : Rules → GridData → Disk → ℕ → Type 0
LeavesEarly rules grid a cell = (tick : ℕ) → IsLeavingTick rules grid a cell tick → tick ≡ a.base

-- the stamp of a crossing after the base tick, in round 0
abbrev pub later_crossing : ℕ → ℕ → Stamp
later_crossing disk tick = record { tick = tick; round = 0; kind = Cross; first = disk; second = 0 }

-- the disk's only crossing is at this tick in round 0; it has none; or it leaves at no later tick than its base tick
abbrev pub IsDeparture : Rules → GridData → ℕ → Disk → ℕ → Departure → Type 0
IsDeparture rules grid disk a cell (At tick) = IsOnly (IsCrossEvent rules grid disk a cell) (later_crossing disk tick)
IsDeparture rules grid disk a cell Never = HasNone (IsCrossEvent rules grid disk a cell)
IsDeparture rules grid disk a cell Unknown = LeavesEarly rules grid a cell
