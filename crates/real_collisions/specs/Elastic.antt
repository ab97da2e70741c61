-- How near the impulse of two disks is to the exact one.
use Rattle.std.specs.Prelude.{◌≡◌, ◌*◌, ◌<◌, ◌≤◌, ℤ, pos, neg_ℤ, nat_abs, ◌*ℤ◌, ◌≤ℤ◌, ◌<ℤ◌}
use Rattle.plane_vectors.specs.declared.Vector.{Vector}
use Rattle.plane_vectors.specs.Vectors.{vector, sum, difference, dot}
use Rattle.impulse_rounding.specs.Impulse.{nearest, rounded_impulse, impulse_of, parting}

-- a vector this many times as long
abbrev pub scaled : ℤ → Vector → Vector
scaled k v = vector (k *ℤ v.x) (k *ℤ v.y)

-- Two smooth disks of one mass that collide, with the separation r and the relative velocity u, give each other exactly
-- the impulse -(r·u / r·r) r. This is the relative velocity after it, r·r times as large, so that it is whole:
-- (r·r) u - 2 (r·u) r.
abbrev pub after_exact : Vector → Vector → Vector
after_exact r u = difference (scaled (dot r r) u) (scaled (pos 2 *ℤ dot r u) r)

-- the exact impulse reverses the speed along r, and keeps the size of the relative velocity, and so the energy
pub record IsElastic (r u : Vector) : Type 0 where
  pub turned : dot r (after_exact r u) ≡ neg_ℤ (dot r r *ℤ dot r u)
  pub energy : dot (after_exact r u) (after_exact r u) ≡ (dot r r *ℤ dot r r) *ℤ dot u u

-- that is so for all separations and velocities
abbrev pub ExactImpulsesAreElastic : Type 0
ExactImpulsesAreElastic = (r u : Vector) → IsElastic r u

-- an impulse less the exact one, r·r times as large
abbrev pub difference_from_exact : Vector → Vector → Vector → Vector
difference_from_exact r u j = sum (scaled (dot r r) j) (scaled (dot r u) r)

-- each component is less than one unit per tick from the exact one
abbrev pub IsWithinOne : Vector → Vector → Vector → Type 0
IsWithinOne r u j =
    let d = difference_from_exact r u j in
    (nat_abs d.x < nat_abs (dot r r)) × (nat_abs d.y < nat_abs (dot r r))

-- each is at most half a unit from it
abbrev pub IsWithinHalf : Vector → Vector → Vector → Type 0
IsWithinHalf r u j =
    let d = difference_from_exact r u j in
    (2 * nat_abs d.x ≤ nat_abs (dot r r)) × (2 * nat_abs d.y ≤ nat_abs (dot r r))

-- neither is smaller in size than the exact one
abbrev pub IsNotSmaller : Vector → Vector → Vector → Type 0
IsNotSmaller r u j =
    (nat_abs (dot r u) * nat_abs r.x ≤ nat_abs (dot r r) * nat_abs j.x)
    × (nat_abs (dot r u) * nat_abs r.y ≤ nat_abs (dot r r) * nat_abs j.y)

-- An impulse of whole numbers after which two disks recede. It is the one nearest to the exact impulse if they recede
-- after that; else its sizes are rounded up.
pub record IsNearlyElastic (r u j : Vector) : Type 0 where
  pub one : IsWithinOne r u j
  pub half : pos 0 <ℤ parting r u (rounded_impulse nearest r u) → IsWithinHalf r u j
  pub up : parting r u (rounded_impulse nearest r u) ≤ℤ pos 0 → IsNotSmaller r u j
  pub recedes : pos 0 <ℤ parting r u j

-- the impulse of two disks that come nearer is such a one
abbrev pub ImpulsesAreElastic : Type 0
ImpulsesAreElastic = (r u : Vector) → dot r u <ℤ pos 0 → IsNearlyElastic r u (impulse_of r u)
