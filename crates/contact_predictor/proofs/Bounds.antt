-- How great the numbers of two disks in a box are.
use Rattle.std.proofs.Common.{ℕ, ◌*◌, ◌^◌, ◌≤◌, arith}
use Rattle.std.specs.Prelude.{ℤ, pos, nat_abs, ◌-ℤ◌, ◌*ℤ◌, ◌≤ℤ◌, ◌<ℤ◌}
use Rattle.std.proofs.lemmas.Int.{ints}
use Rattle.std.proofs.Math.Nat.{mul-le-mul}
use Rattle.plane_vectors.specs.declared.Vector.{Vector}
use Rattle.plane_vectors.specs.Vectors.{dot, IsWithin}
use Rattle.plane_vectors.proofs.Products.{square_not_negative}
use Rattle.plane_vectors.proofs.Sizes.{size_of_product, dot_size}
use Rattle.contact_predictor.specs.declared.approach.Approach.{Approach}
use Rattle.contact_predictor.specs.Contact.{gap}
use Rattle.contact_predictor.specs.Approach.{IsApproachOf, FitsApproach, IsFit, IsEarly}
use Rattle.contact_predictor.proofs.Approaching.{speed_not_negative}

dot_within : (m n : ℕ) (a b : Vector) → IsWithin m a → IsWithin n b → nat_abs (dot a b) ≤ 2 * (m * n)
dot_within m n a b h k =
    let along : nat_abs a.x * nat_abs b.x ≤ m * n = mul-le-mul h.x k.x in
    let up : nat_abs a.y * nat_abs b.y ≤ m * n = mul-le-mul h.y k.y in
    let sum = dot_size a b in
    omega arith

-- disks whose separation is at most 2^30 units on each axis, whose relative velocity is at most 2^21 units per tick on
-- each, and which touch at a distance of at most 2^30 units
pub record AreInABox (r u : Vector) (distance : ℤ) : Type 0 where
  pub separation : IsWithin (2 ^ 30) r
  pub velocity : IsWithin (2 ^ 21) u
  pub reach : nat_abs distance ≤ 2 ^ 30

-- the sizes of their numbers
record AreBounded (r u : Vector) (distance : ℤ) : Type 0 where
  pub square : nat_abs (dot u u) ≤ 2 ^ 43
  pub closing : nat_abs (dot r u) ≤ 2 ^ 52
  pub gap : nat_abs (gap r distance) ≤ 2 ^ 61

bounded : (r u : Vector) (distance : ℤ) → AreInABox r u distance → AreBounded r u distance
bounded r u distance h =
    let square = dot_within (2 ^ 21) (2 ^ 21) u u h.velocity h.velocity in
    let closing = dot_within (2 ^ 30) (2 ^ 21) r u h.separation h.velocity in
    let length = dot_within (2 ^ 30) (2 ^ 30) r r h.separation h.separation in
    let touch = size_of_product distance distance (2 ^ 30) (2 ^ 30) h.reach h.reach in
    record {
      square = omega arith;
      closing = omega arith;
      gap = less (dot r r) (distance *ℤ distance) (speed_not_negative r) (square_not_negative distance) length touch;
    }
  where
    less : (m n : ℤ) → pos 0 ≤ℤ m → pos 0 ≤ℤ n → nat_abs m ≤ 2 * (2 ^ 30 * 2 ^ 30) → nat_abs n ≤ 2 ^ 30 * 2 ^ 30 → nat_abs (m -ℤ n) ≤ 2 ^ 61
    less m n p q h k = omega (arith, ints)

-- their numbers fit 64 bits
pub fits_in_a_box : (r u : Vector) (distance : ℤ) → AreInABox r u distance → FitsApproach r u distance
fits_in_a_box r u distance h =
    let sizes = bounded r u distance h in
    let a = sizes.square in
    let b = sizes.closing in
    let c = sizes.gap in
    record { square = omega arith; closing = omega arith; gap = omega arith }

-- and are as great as those of the quadratic may be
pub fit_in_a_box : (r u : Vector) (distance : ℤ) (q : Approach) → AreInABox r u distance → IsApproachOf r u distance q → IsFit q
fit_in_a_box r u distance q h of =
    let sizes = bounded r u distance h in
    record {
      not_negative = rw of.square (speed_not_negative u);
      square = rw of.square sizes.square;
      closing = rw of.closing sizes.closing;
      gap = rw of.gap sizes.gap;
    }

-- an early tick comes within 2^61 ticks
pub early_few : (q : Approach) (t : ℕ) → IsFit q → q.closing <ℤ pos 0 → IsEarly q t → t ≤ 2 ^ 61
early_few q t fit closing early =
    let some : 1 ≤ nat_abs q.closing = omega (arith, ints) in
    let once : 1 * t ≤ nat_abs q.closing * t = mul-le-mul some (same t) in
    let most = fit.gap in
    omega arith
  where
    same : (n : ℕ) → n ≤ n
    same n = omega arith
