-- Sums over the collisions of a run, in the part of the box that is at least a margin from its sides.
use Rattle.std.specs.Prelude.{ℕ, ◌+◌, ◌*◌, ◌^◌, ◌-◌, min, Bool, ◌&&◌, ◌==◌, nat_lt, if◌then◌else◌, ℤ, pos, ◌-ℤ◌, ◌*ℤ◌, nat_abs, List, sum_by, Option, Some, None}
use Rattle.plane_vectors.specs.declared.Vector.{Vector}
use Rattle.plane_vectors.specs.Vectors.{vector, sum, difference, dot}
use Rattle.fixed_motion.specs.declared.rules.Rules.{Rules}
use Rattle.fixed_motion.specs.declared.disk.Disk.{Disk}
use Rattle.fixed_motion.specs.Rules.{is_in}
use Rattle.fixed_motion.specs.Motion.{centre_of, velocity_of}
use Rattle.event_stamps.specs.declared.Stamp.{Stamp}
use Rattle.event_rules.specs.declared.change.Change.{Change}
use Rattle.event_rules.specs.declared.outcome.Spot.{Spot}
use Rattle.event_rules.specs.Conservation.{square_of, spot_velocity, velocity_at}
use Rattle.collision_sums.specs.declared.sums.Sums.{Sums}

-- nothing has happened yet
abbrev pub no_sums : Sums
no_sums = record { pairs = 0; virial = 0; walls = 0; left = 0; right = 0; bottom = 0; top = 0 }

-- at least the margin from both ends of a length
abbrev pub is_away : ℕ → ℤ → ℤ → Bool
is_away margin length along = is_in (pos margin, length -ℤ pos margin) along

-- a place at least the margin from each side of the box
abbrev pub is_in_part : Rules → ℕ → Vector → Bool
is_in_part rules margin place = is_away margin rules.width place.x && is_away margin rules.height place.y

-- the middle of two places at least the margin from each side: twice the middle is their sum
abbrev pub has_middle_in_part : Rules → ℕ → Vector → Vector → Bool
has_middle_in_part rules margin p q =
    is_away (2 * margin) (pos 2 *ℤ rules.width) (sum p q).x && is_away (2 * margin) (pos 2 *ℤ rules.height) (sum p q).y

-- a sum of 128 bits stops at its last value, which no run reaches
abbrev pub added : ℕ → ℕ → ℕ
added total n = min (total + n) (2 ^ 128 - 1)

-- r·Δv of a pair, with r from the second disk to the first, and Δv what the first disk's velocity, v before, has changed by
abbrev pub virial_of : Vector → Disk → Disk → ℕ
virial_of v a b = nat_abs (dot (difference (centre_of a) (centre_of b)) (difference (velocity_of a) v))

-- two disks hit each other, and the middle between them is in the part
abbrev pub after_pair : Rules → ℕ → Sums → Vector → Disk → Disk → Sums
after_pair rules margin sums v a b =
    if has_middle_in_part rules margin (centre_of a) (centre_of b)
    then record sums { pairs = added sums.pairs 1; virial = added sums.virial (virial_of v a b) }
    else sums

-- a disk leaves a side with this velocity across it: the side turned it from minus that
abbrev pub taken_of : ℤ → ℕ
taken_of across = 2 * nat_abs across

-- one more at a side: 0 left, 1 right, 2 bottom, 3 top
abbrev pub with_taken : Sums → ℕ → ℕ → Sums
with_taken sums side push =
    if side == 0 then record sums { walls = added sums.walls 1; left = added sums.left push }
    else if side == 1 then record sums { walls = added sums.walls 1; right = added sums.right push }
    else if side == 2 then record sums { walls = added sums.walls 1; bottom = added sums.bottom push }
    else record sums { walls = added sums.walls 1; top = added sums.top push }

-- a disk's place along a side, at least the margin from its ends
abbrev pub is_along : Rules → ℕ → ℕ → Disk → Bool
is_along rules margin side a =
    if nat_lt side 2 then is_away margin rules.height a.y else is_away margin rules.width a.x

-- the component of a velocity across a side
abbrev pub across_of : ℕ → Disk → ℤ
across_of side a = if nat_lt side 2 then a.vx else a.vy

-- a disk hits a side, not near its ends
abbrev pub after_wall : Rules → ℕ → Sums → ℕ → Disk → Sums
after_wall rules margin sums side a =
    if is_along rules margin side a then with_taken sums side (taken_of (across_of side a)) else sums

-- an event of a disk of this new record and a side, or of two, in a state
abbrev pub after_event : Rules → ℕ → List Disk → Sums → Stamp → Disk → Option Disk → Sums
after_event rules margin disks sums s a None = after_wall rules margin sums s.second a
after_event rules margin disks sums s a (Some b) = after_pair rules margin sums (velocity_at disks s.first) a b

-- the sums after a change of a state
abbrev pub after_change : Rules → ℕ → List Disk → Sums → Change → Sums
after_change rules margin disks sums c = after_event rules margin disks sums c.stamp c.first c.second

-- the place of a spot
abbrev pub spot_place : Spot → Vector
spot_place spot = vector spot.x spot.y

-- 1 for a spot that is in the part, else 0
abbrev pub disk_in : Rules → ℕ → Spot → ℕ
disk_in rules margin spot = if is_in_part rules margin (spot_place spot) then 1 else 0

-- how many disks of a state are in the part
abbrev pub disks_in : Rules → ℕ → List Spot → ℕ
disks_in rules margin spots = sum_by (disk_in rules margin) spots

-- the squared speed at a spot that is in the part
abbrev pub square_in : Rules → ℕ → Spot → ℕ
square_in rules margin spot =
    if is_in_part rules margin (spot_place spot) then square_of (spot_velocity spot) else 0

-- the sum of the squared speeds of the disks that are in the part
abbrev pub squares_in : Rules → ℕ → List Spot → ℕ
squares_in rules margin spots = sum_by (square_in rules margin) spots
