-- The sizes of sums and products of signed numbers, and what of them a machine computes exactly.
use Rattle.std.proofs.Common.{◌≡◌, ℕ, ◌+◌, ◌*◌, ◌^◌, ◌≤◌, ◌-◌, arith}
use Rattle.std.specs.Prelude.{ℤ, pos, nat_abs, FitsSigned, ◌+ℤ◌, ◌-ℤ◌, ◌*ℤ◌}
use Rattle.std.proofs.lemmas.Int.{ints, to_z-of_z, to_z_pos, unsigned_abs-mul}
use Rattle.std.proofs.Math.Nat.{mul-le-mul}
use mir.Syntax.{w64}
use mir.Val.{to_z, of_z}
use Rattle.plane_vectors.specs.declared.Vector.{Vector}
use Rattle.plane_vectors.specs.Vectors.{dot, IsWithin}

pub size_of_sum : (a b : ℤ) → nat_abs (a +ℤ b) ≤ nat_abs a + nat_abs b
size_of_sum a b = grind (arith, ints)

-- a bound on two sizes bounds the product
pub size_of_product : (a b : ℤ) (m n : ℕ) → nat_abs a ≤ m → nat_abs b ≤ n → nat_abs (a *ℤ b) ≤ m * n
size_of_product a b m n p q = rw (unsigned_abs-mul a b) (mul-le-mul p q)

pub dot_size : (a b : Vector) → nat_abs (dot a b) ≤ nat_abs a.x * nat_abs b.x + nat_abs a.y * nat_abs b.y
dot_size a b = rw (← unsigned_abs-mul a.x b.x, ← unsigned_abs-mul a.y b.y) (size_of_sum (a.x *ℤ b.x) (a.y *ℤ b.y))

-- bits are those of a number, and back
abbrev pub sent : ℤ → ℤ
sent n = to_z w64 (of_z w64 n)

-- a number of 64 bits went through them unchanged
pub sent_same : (n : ℤ) → FitsSigned w64 n → sent n ≡ n
sent_same n fits = to_z-of_z w64 n fits

-- the code's sum of two coordinates fits and is exact, and so is its difference
pub record IsExactSum (x y : ℤ) : Type 0 where
  pub fits : FitsSigned w64 (sent x +ℤ sent y)
  pub value : sent (sent x +ℤ sent y) ≡ (x +ℤ y)

pub record IsExactDifference (x y : ℤ) : Type 0 where
  pub fits : FitsSigned w64 (sent x -ℤ sent y)
  pub value : sent (sent x -ℤ sent y) ≡ (x -ℤ y)

coordinate_fits : (x : ℤ) → nat_abs x ≤ 2 ^ 62 - 1 → FitsSigned w64 x
coordinate_fits x h = omega (arith, ints)

pub sum_exact : (x y : ℤ) → nat_abs x ≤ 2 ^ 62 - 1 → nat_abs y ≤ 2 ^ 62 - 1 → IsExactSum x y
sum_exact x y hx hy =
    let first : sent x ≡ x = sent_same x (coordinate_fits x hx) in
    let second : sent y ≡ y = sent_same y (coordinate_fits y hy) in
    let sum : FitsSigned w64 (x +ℤ y) = coordinates_sum_fits x y hx hy in
    record { fits = rw (first, second) sum; value = rw (first, second) (sent_same (x +ℤ y) sum) }
  where
    coordinates_sum_fits : (x y : ℤ) → nat_abs x ≤ 2 ^ 62 - 1 → nat_abs y ≤ 2 ^ 62 - 1 → FitsSigned w64 (x +ℤ y)
    coordinates_sum_fits x y h k = omega (arith, ints)

pub difference_exact : (x y : ℤ) → nat_abs x ≤ 2 ^ 62 - 1 → nat_abs y ≤ 2 ^ 62 - 1 → IsExactDifference x y
difference_exact x y hx hy =
    let first : sent x ≡ x = sent_same x (coordinate_fits x hx) in
    let second : sent y ≡ y = sent_same y (coordinate_fits y hy) in
    let difference : FitsSigned w64 (x -ℤ y) = coordinates_difference_fits x y hx hy in
    record { fits = rw (first, second) difference; value = rw (first, second) (sent_same (x -ℤ y) difference) }
  where
    coordinates_difference_fits : (x y : ℤ) → nat_abs x ≤ 2 ^ 62 - 1 → nat_abs y ≤ 2 ^ 62 - 1 → FitsSigned w64 (x -ℤ y)
    coordinates_difference_fits x y h k = omega (arith, ints)

-- the code's products and their sum fit, and are exact
pub record IsExact (a b : Vector) : Type 0 where
  pub first_fits : FitsSigned w64 (sent a.x *ℤ sent b.x)
  pub second_fits : FitsSigned w64 (sent a.y *ℤ sent b.y)
  pub fits : FitsSigned w64 (sent (sent a.x *ℤ sent b.x) +ℤ sent (sent a.y *ℤ sent b.y))
  pub value : sent (sent (sent a.x *ℤ sent b.x) +ℤ sent (sent a.y *ℤ sent b.y)) ≡ dot a b

pub dot_exact : (a b : Vector) → IsWithin (2 ^ 31 - 1) a → IsWithin (2 ^ 31 - 1) b → IsExact a b
dot_exact a b ha hb =
    let ax : sent a.x ≡ a.x = sent_same a.x (number_fits a.x ha.x) in
    let ay : sent a.y ≡ a.y = sent_same a.y (number_fits a.y ha.y) in
    let bx : sent b.x ≡ b.x = sent_same b.x (number_fits b.x hb.x) in
    let by : sent b.y ≡ b.y = sent_same b.y (number_fits b.y hb.y) in
    let xx = size_of_product a.x b.x (2 ^ 31 - 1) (2 ^ 31 - 1) ha.x hb.x in
    let yy = size_of_product a.y b.y (2 ^ 31 - 1) (2 ^ 31 - 1) ha.y hb.y in
    let first : FitsSigned w64 (a.x *ℤ b.x) = product_fits (a.x *ℤ b.x) xx in
    let second : FitsSigned w64 (a.y *ℤ b.y) = product_fits (a.y *ℤ b.y) yy in
    let px : sent (a.x *ℤ b.x) ≡ (a.x *ℤ b.x) = sent_same (a.x *ℤ b.x) first in
    let py : sent (a.y *ℤ b.y) ≡ (a.y *ℤ b.y) = sent_same (a.y *ℤ b.y) second in
    let sum = sum_fits (a.x *ℤ b.x) (a.y *ℤ b.y) xx yy in
    record {
      first_fits = rw (ax, bx) first;
      second_fits = rw (ay, by) second;
      fits = rw (ax, ay, bx, by, px, py) sum;
      value = rw (ax, ay, bx, by, px, py) (sent_same (dot a b) sum);
    }
  where
    number_fits : (x : ℤ) → nat_abs x ≤ 2 ^ 31 - 1 → FitsSigned w64 x
    number_fits x h = omega (arith, ints)

    product_fits : (x : ℤ) → nat_abs x ≤ (2 ^ 31 - 1) * (2 ^ 31 - 1) → FitsSigned w64 x
    product_fits x h = omega (arith, ints)

    sum_fits : (x y : ℤ) → nat_abs x ≤ (2 ^ 31 - 1) * (2 ^ 31 - 1) → nat_abs y ≤ (2 ^ 31 - 1) * (2 ^ 31 - 1) → FitsSigned w64 (x +ℤ y)
    sum_fits x y h k = omega (arith, ints)

-- the code's way of a coordinate in some ticks fits, and so does its sum with the coordinate, which is exact
pub record IsWay (x v : ℤ) (t : ℕ) : Type 0 where
  pub way_fits : FitsSigned w64 (sent v *ℤ to_z w64 t)
  pub sum_fits : FitsSigned w64 (sent x +ℤ sent (sent v *ℤ to_z w64 t))
  pub place : sent (sent x +ℤ sent (sent v *ℤ to_z w64 t)) ≡ (x +ℤ (v *ℤ pos t))

pub way : (x v : ℤ) (t : ℕ) → nat_abs x ≤ 2 ^ 31 → nat_abs v ≤ 2 ^ 21 → t ≤ 2 ^ 40 → IsWay x v t
way x v t hx hv ht =
    let start : sent x ≡ x = sent_same x (omega (arith, ints)) in
    let speed : sent v ≡ v = sent_same v (omega (arith, ints)) in
    let ticks : to_z w64 t ≡ pos t = to_z_pos w64 t (omega arith) in
    let size : nat_abs (v *ℤ pos t) ≤ 2 ^ 21 * 2 ^ 40 = size_of_product v (pos t) (2 ^ 21) (2 ^ 40) hv ht in
    let fits : FitsSigned w64 (v *ℤ pos t) = product_fits (v *ℤ pos t) size in
    let product : sent (v *ℤ pos t) ≡ (v *ℤ pos t) = sent_same (v *ℤ pos t) fits in
    let sum : FitsSigned w64 (x +ℤ (v *ℤ pos t)) = way_sum_fits x (v *ℤ pos t) hx size in
    record {
      way_fits = rw (speed, ticks) fits;
      sum_fits = rw (start, speed, ticks, product) sum;
      place = rw (start, speed, ticks, product) (sent_same (x +ℤ (v *ℤ pos t)) sum);
    }
  where
    product_fits : (z : ℤ) → nat_abs z ≤ 2 ^ 21 * 2 ^ 40 → FitsSigned w64 z
    product_fits z h = omega (arith, ints)

    way_sum_fits : (x z : ℤ) → nat_abs x ≤ 2 ^ 31 → nat_abs z ≤ 2 ^ 21 * 2 ^ 40 → FitsSigned w64 (x +ℤ z)
    way_sum_fits x z h k = omega (arith, ints)
