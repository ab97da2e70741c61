-- What the parts of a crossing answer.
use Rattle.std.specs.Prelude.{◌≡◌, ◌↔◌, ℕ, ◌^◌, ◌≤◌, ℤ, pos, nat_abs, ◌-ℤ◌, Option, Some, None, IsNone}
use Rattle.fixed_motion.specs.declared.rules.Rules.{Rules}
use Rattle.fixed_motion.specs.declared.rules.TheConstants.{MAX_SIDE}
use Rattle.fixed_motion.specs.declared.disk.Disk.{Disk}
use Rattle.fixed_motion.specs.Motion.{radius_of, centre_of, velocity_of}
use Rattle.plane_vectors.specs.declared.Vector.{Vector}
use Rattle.plane_vectors.specs.Vectors.{after}
use Rattle.plane_vectors.specs.Vectors as vectors
use Rattle.contact_predictor.specs.Contact.{coordinate_after, IsBetween}
use Rattle.cell_grid.specs.declared.bounds.Bounds.{Bounds}
use Rattle.cell_grid.specs.declared.bounds.Course.{Course}
use Rattle.cell_grid.specs.declared.room.Room.{Room}
use Rattle.cell_grid.specs.Grid.{GridData, along, column_of, row_of}
use Rattle.cell_grid.specs.Crossing.{IsInCell}

-- a number from a first one on, if there is a first one
abbrev pub IsFrom : Option ℕ → ℕ → Type 0
IsFrom None n = ⊥
IsFrom (Some first) n = first ≤ n

-- P holds at no number from the end on, and if it holds at a number before, it holds from there up to the end; if there
-- is no end, it holds always or never
pub record EndsAt (P : ℕ → Type 0) (end : Option ℕ) : Type 0 where
  pub never : (n : ℕ) → IsFrom end n → ¬ P n
  pub until : (m n : ℕ) → m ≤ n → ¬ IsFrom end n → P m → P n
  pub always : IsNone end → (m n : ℕ) → P m → P n

-- ---- one coordinate
-- its place after this many ticks
abbrev pub place_after : Course → ℕ → ℤ
place_after course ticks = coordinate_after course.start course.velocity ticks

-- the coordinate is within the bounds, both included
abbrev pub IsWithinBounds : Bounds → ℤ → Type 0
IsWithinBounds bounds n = IsBetween bounds.least bounds.greatest n

-- the coordinate is within the bounds after this many ticks
abbrev pub IsWithinAfter : Bounds → Course → ℕ → Type 0
IsWithinAfter bounds course ticks = IsWithinBounds bounds (place_after course ticks)

-- both bounds are at most 2^30 in size
pub record AreSmall (bounds : Bounds) : Type 0 where
  pub least : nat_abs bounds.least ≤ 2 ^ 30
  pub greatest : nat_abs bounds.greatest ≤ 2 ^ 30

-- the start is at most 2^30 in size, and the velocity at most 2^20
pub record IsSlowCourse (course : Course) : Type 0 where
  pub start : nat_abs course.start ≤ 2 ^ 30
  pub velocity : nat_abs course.velocity ≤ 2 ^ 20

-- these bound the column, or the row, of this index
abbrev pub AreOfColumn : ℕ → ℕ → ℕ → Bounds → Type 0
AreOfColumn side count index bounds =
    (n : ℤ) → IsBetween (pos 0) MAX_SIDE n → (IsWithinBounds bounds n ↔ (along side count n ≡ index))

-- ---- a disk in a cell
-- at this coordinate a disk is between the left and the right side of the box, and in the column of the cell
abbrev pub IsAcross : Rules → GridData → Disk → ℕ → ℤ → Type 0
IsAcross rules grid a cell n =
    IsBetween (radius_of a) (rules.width -ℤ radius_of a) n × (along grid.side_x grid.columns n ≡ column_of grid cell)

-- between the bottom and the top, and in the row of the cell
abbrev pub IsUpwards : Rules → GridData → Disk → ℕ → ℤ → Type 0
IsUpwards rules grid a cell n =
    IsBetween (radius_of a) (rules.height -ℤ radius_of a) n × (along grid.side_y grid.rows n ≡ row_of grid cell)

-- the place is in the room
abbrev pub IsInRoom : Room → Vector → Type 0
IsInRoom room place = IsWithinBounds room.across place.x × IsWithinBounds room.upwards place.y

-- this many ticks after its base tick, the centre of a disk that keeps its course is in the room
abbrev pub IsInRoomAfter : Room → Disk → ℕ → Type 0
IsInRoomAfter room a ticks = IsInRoom room (after (centre_of a) (velocity_of a) ticks)

-- at the places in the room, and no others, the disk is inside the box and in the cell
abbrev pub IsRoomOf : Rules → GridData → Disk → ℕ → Room → Type 0
IsRoomOf rules grid a cell room = (place : Vector) → (IsInRoom room place ↔ IsInCell rules grid a cell place)

-- all bounds of the room are at most 2^30 in size
pub record IsSmallRoom (room : Room) : Type 0 where
  pub across : AreSmall room.across
  pub upwards : AreSmall room.upwards

-- each component of the centre is at most 2^30 in size, and of the velocity at most 2^20
pub record IsSlowDisk (a : Disk) : Type 0 where
  pub centre : vectors.IsWithin (2 ^ 30) (centre_of a)
  pub velocity : vectors.IsWithin (2 ^ 20) (velocity_of a)
