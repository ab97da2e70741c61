-- A disk that leaves its cell after its base tick does so in round 0.
use Rattle.std.proofs.Common.{◌≡◌, ℕ, zero, suc, ◌+◌, ◌-◌, ◌<◌, refl, sym, arith}
use Rattle.std.specs.Prelude.{Some, None}
use Rattle.fixed_motion.specs.declared.rules.Rules.{Rules}
use Rattle.fixed_motion.specs.declared.disk.Disk.{Disk}
use Rattle.fixed_motion.specs.Motion.{IsInside, place_of, mark_at}
use Rattle.event_stamps.specs.declared.Kind.TheVariants.{Cross}
use Rattle.event_stamps.specs.Least.{IsOnly}
use Rattle.cell_grid.specs.declared.room.Room.{Room}
use Rattle.cell_grid.specs.Grid.{GridData}
use Rattle.cell_grid.specs.Crossing.{HasLeft, IsCrossEvent}
use Rattle.cell_grid.specs.Leaving.{EndsAt, IsInRoomAfter, IsRoomOf}
use Rattle.cell_grid.specs.Later.{IsLaterTick, LeavesEarly, later_crossing}
use Rattle.cell_grid.proofs.Ends.{leaves_at_end, only_crossing}

-- what holds at the last number before the end ends later than at 0
ends_later : (P : ℕ → Type 0) (n : ℕ) → EndsAt P (Some n) → P (n - 1) → 0 < n
ends_later P zero h here = absurd (h.never 0 (omega arith) here)
ends_later P (suc m) h here = omega arith

-- a disk that is in its cell at the last tick before the end leaves it then
pub leaves_later : (rules : Rules) (grid : GridData) (a : Disk) (cell : ℕ) (room : Room) (n : ℕ) →
    IsRoomOf rules grid a cell room → EndsAt (IsInRoomAfter room a) (Some n) → IsInRoomAfter room a (n - 1) →
    IsLaterTick rules grid a cell (a.base + n)
leaves_later rules grid a cell room n of h here =
    let some = ends_later (IsInRoomAfter room a) n h here in
    (leaves_at_end rules grid a cell room n of h here, omega arith)

-- a disk that stands still has left its cell at its base tick, or never leaves it
pub still_leaves_early : (rules : Rules) (grid : GridData) (a : Disk) (cell : ℕ) (room : Room) →
    IsRoomOf rules grid a cell room → EndsAt (IsInRoomAfter room a) None → LeavesEarly rules grid a cell
still_leaves_early rules grid a cell room of h tick leaving =
    let left : HasLeft rules grid a cell a.base =
    λ t le here. leaving.left tick (omega arith) ((of (place_of a tick)).0 (h.always refl (t - a.base) (tick - a.base) ((of (place_of a t)).1 here))) in
    let base = leaving.base in
    let not_later : ¬ (a.base < tick) = λ lt. leaving.first a.base (omega arith) lt left in
    omega arith

later_mark : (a : Disk) (tick : ℕ) → a.base < tick → mark_at a tick ≡ 0
later_mark a tick later = grind arith

-- a crossing after the base tick is in round 0
pub only_later : (rules : Rules) (grid : GridData) (disk : ℕ) (a : Disk) (cell tick : ℕ) → IsLaterTick rules grid a cell tick →
    IsInside rules a (place_of a tick) → tick < rules.end →
    IsOnly (IsCrossEvent rules grid disk a cell) (later_crossing disk tick)
only_later rules grid disk a cell tick later inside before =
    only_crossing rules grid disk a cell tick (later_crossing disk tick) later.0 inside before
    (λ i. record { tick = tick; round = sym (later_mark a tick later.1) i; kind = Cross; first = disk; second = 0 })
