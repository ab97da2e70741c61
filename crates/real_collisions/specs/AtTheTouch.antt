-- The impulse of two disks against the exact one for the line of their centres at each moment up to their touch, which
-- comes within the tick after the event; and what it does to their angular momentum.
use Rattle.std.specs.Prelude.{◌≡◌, ◌⊎◌, ℕ, ◌+◌, ◌*◌, ◌<◌, ◌≤◌, ℤ, pos, nat_abs, ◌+ℤ◌, ◌-ℤ◌, ◌*ℤ◌, ◌<ℤ◌, List, ◌∷◌, ◌++◌, fold}
use Rattle.plane_vectors.specs.declared.Vector.{Vector}
use Rattle.plane_vectors.specs.Vectors.{vector, difference, dot, after}
use Rattle.fixed_motion.specs.declared.rules.Rules.{Rules}
use Rattle.fixed_motion.specs.declared.disk.Disk.{Disk}
use Rattle.fixed_motion.specs.Motion.{place_of, centre_of, velocity_of, contact_distance}
use Rattle.event_rules.specs.declared.change.Change.{Change}
use Rattle.event_rules.specs.declared.outcome.Outcome.{Outcome}
use Rattle.event_rules.specs.Moments.{Moment, IsWithinTick, place_at, in_parts, OverlapAt}
use Rattle.event_rules.specs.Run.{Runs, effect}
use Rattle.real_collisions.specs.Elastic.{IsWithinOne, IsWithinHalf, scaled, difference_from_exact}
use Rattle.real_collisions.specs.Laws.{IsElasticBounce, IsElasticCollision}

-- ---- for vectors
-- The separation r after part / whole of a tick of the relative velocity u, in parts of a unit, so that it is whole: as
-- many as `whole` make a unit.
abbrev pub separation_after : Vector → Vector → ℕ → ℕ → Vector
separation_after r u part whole = after (vector (r.x *ℤ pos whole) (r.y *ℤ pos whole)) u part

-- then two disks that touch at this distance don't overlap
abbrev pub AreApartAfter : Vector → Vector → ℤ → ℕ → ℕ → Type 0
AreApartAfter r u distance part whole =
    let q = separation_after r u part whole in
    ¬ (dot q q <ℤ ((distance *ℤ pos whole) *ℤ (distance *ℤ pos whole)))

-- the exact impulse at the separation q less that at r, r·r q·q times as large: r·r (q·u) q - q·q (r·u) r, reversed
abbrev pub difference_of_exact : Vector → Vector → Vector → Vector
difference_of_exact r q u = difference (scaled (dot q q *ℤ dot r u) r) (scaled (dot r r *ℤ dot q u) q)

-- no component of their difference is greater than u·u / distance
abbrev pub AreExactNear : Vector → Vector → Vector → ℤ → Type 0
AreExactNear r q u distance =
    let d = difference_of_exact r q u in
    (nat_abs distance * nat_abs d.x ≤ nat_abs (dot u u) * (nat_abs (dot r r) * nat_abs (dot q q)))
    × (nat_abs distance * nat_abs d.y ≤ nat_abs (dot u u) * (nat_abs (dot r r) * nat_abs (dot q q)))

-- each component of an impulse is at most 1 + u·u / distance from the exact one at the separation q
abbrev pub IsWithinOneAt : Vector → Vector → Vector → ℤ → Type 0
IsWithinOneAt q u j distance =
    let d = difference_from_exact q u j in
    let most = (nat_abs distance + nat_abs (dot u u)) * nat_abs (dot q q) in
    (nat_abs distance * nat_abs d.x ≤ most) × (nat_abs distance * nat_abs d.y ≤ most)

-- each is at most 1/2 + u·u / distance from it
abbrev pub IsWithinHalfAt : Vector → Vector → Vector → ℤ → Type 0
IsWithinHalfAt q u j distance =
    let d = difference_from_exact q u j in
    let most = (nat_abs distance + 2 * nat_abs (dot u u)) * nat_abs (dot q q) in
    (2 * (nat_abs distance * nat_abs d.x) ≤ most) × (2 * (nat_abs distance * nat_abs d.y) ≤ most)

-- The exact impulse changes by at most u·u / distance in each component. So one that is within a unit, or half a unit,
-- of that at the beginning is within this more of that now.
pub record IsNearUntil (r u : Vector) (distance : ℤ) (part whole : ℕ) : Type 0 where
  pub exact : AreExactNear r (separation_after r u part whole) u distance
  pub one : (j : Vector) → IsWithinOne r u j → IsWithinOneAt (separation_after r u part whole) u j distance
  pub half : (j : Vector) → 0 < nat_abs (dot r r) → IsWithinHalf r u j → IsWithinHalfAt (separation_after r u part whole) u j distance

-- that is so up to each moment of a tick at which two disks don't overlap
abbrev pub ImpulsesAreNearUntil : Type 0
ImpulsesAreNearUntil = (r u : Vector) (distance : ℤ) (part whole : ℕ) → part ≤ whole → AreApartAfter r u distance part whole →
    IsNearUntil r u distance part whole

-- ---- for disks
-- the separation of two disks at a moment, in parts
abbrev pub separation_at : Moment → Disk → Disk → Vector
separation_at m a b = difference (place_at m a) (place_at m b)

-- the velocity of the first relative to the second
abbrev pub relative_of : Disk → Disk → Vector
relative_of a b = difference (velocity_of a) (velocity_of b)

-- from the tick to the moment no component of the separation changes by more than its way in a tick
pub record IsNearPlace (a b : Disk) (m : Moment) : Type 0 where
  pub x : nat_abs ((separation_at m a b).x -ℤ in_parts m (difference (place_of a m.tick) (place_of b m.tick)).x) ≤ m.whole * nat_abs (relative_of a b).x
  pub y : nat_abs ((separation_at m a b).y -ℤ in_parts m (difference (place_of a m.tick) (place_of b m.tick)).y) ≤ m.whole * nat_abs (relative_of a b).y

-- The moment of a tick after which two disks touch for the first time, told as near as one likes: at this part of the
-- tick and at each smaller one they don't overlap on their straight ways, and they would one part later.
pub record TouchesSoonAfter (a b : Disk) (tick most : ℕ) : Type 0 where
  pub part : ℕ
  pub whole : ℕ
  pub fine : most < whole
  pub within : part < whole
  pub apart : (n : ℕ) → n ≤ part → ¬ OverlapAt (record { tick = tick; part = n; whole = whole }) a b
  pub overlap : OverlapAt (record { tick = tick; part = part + 1; whole = whole }) a b

-- the z component of the vector product
abbrev pub cross : Vector → Vector → ℤ
cross a b = (a.x *ℤ b.y) -ℤ (a.y *ℤ b.x)

-- the angular momentum about a place, at a tick, of a disk of mass one that doesn't spin
abbrev pub turning : Vector → ℕ → Disk → ℤ
turning about tick a = cross (difference (place_of a tick) about) (velocity_of a)

-- on its straight way it stays
abbrev pub FlightKeepsTurning : Type 0
FlightKeepsTurning = (about : Vector) (tick : ℕ) (a : Disk) → turning about tick a ≡ cross (difference (centre_of a) about) (velocity_of a)

-- An event of two disks and the tick that follows, in which they touch: the places are within a tick's way of those at
-- the event, and where they don't overlap each component of the impulse is within 1 + u·u / D of the exact one, with D
-- the distance at which they touch. About whatever place, their angular momentum changes by less than |r_x| + |r_y|.
pub record IsElasticTouch (disks : List Disk) (c : Change) : Type 0 where
  pub collision : IsElasticCollision disks c
  pub touch : (most : ℕ) → TouchesSoonAfter collision.first collision.second c.stamp.tick most
  pub place : (m : Moment) → IsWithinTick m → IsNearPlace collision.first collision.second m
  pub impulse : (m : Moment) → IsWithinTick m → m.tick ≡ c.stamp.tick → ¬ OverlapAt m collision.first collision.second →
      IsWithinOneAt (separation_at m collision.first collision.second) (relative_of collision.first collision.second)
      collision.impulse (contact_distance collision.first collision.second)
  pub half : (m : Moment) → IsWithinTick m → m.tick ≡ c.stamp.tick → ¬ OverlapAt m collision.first collision.second →
      IsWithinHalf (difference (place_of collision.first c.stamp.tick) (place_of collision.second c.stamp.tick))
      (relative_of collision.first collision.second) collision.impulse →
      IsWithinHalfAt (separation_at m collision.first collision.second) (relative_of collision.first collision.second)
      collision.impulse (contact_distance collision.first collision.second)
  pub turns : (about : Vector) →
      let tick = c.stamp.tick in
      let r = difference (place_of collision.first tick) (place_of collision.second tick) in
      nat_abs ((turning about tick c.first +ℤ turning about tick collision.later)
      -ℤ (turning about tick collision.first +ℤ turning about tick collision.second)) < nat_abs r.x + nat_abs r.y

-- each event of a run turns a disk at a side exactly, or is such an event of two disks
abbrev pub EventsAreElasticAtTheTouch : Type 0
EventsAreElasticAtTheTouch = (rules : Rules) (disks : List Disk) (before after : List Change) (c : Change) (outcome : Outcome) →
    Runs rules disks (before ++ (c ∷ after)) outcome →
    IsElasticBounce (fold effect disks before) c ⊎ IsElasticTouch (fold effect disks before) c
