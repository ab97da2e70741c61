-- Sizes with signs put on, and the sizes of scalar products.
use Rattle.std.proofs.Common.{◌≡◌, ℕ, zero, suc, ◌+◌, ◌*◌, ◌^◌, ◌<◌, ◌≤◌, refl, ap, arith}
use Rattle.std.specs.Prelude.{ℤ, pos, negsuc, nat_abs, FitsSigned, ◌+ℤ◌, ◌-ℤ◌, ◌*ℤ◌, ◌<ℤ◌}
use Rattle.std.proofs.lemmas.Int.{ints}
use Rattle.std.proofs.Math.Nat.{mul-le-mul}
use mir.Syntax.{w64}
use Rattle.plane_vectors.specs.declared.Vector.{Vector}
use Rattle.plane_vectors.specs.Vectors.{dot, IsWithin}
use Rattle.plane_vectors.proofs.Sizes.{dot_size, sent, sent_same}
use Rattle.plane_vectors.proofs.Directions.{forward, against, length_is}
use Rattle.impulse_rounding.specs.Impulse.{signed, with_signs, parting}

pub dot_bound : (a b : Vector) → IsWithin (2 ^ 30) a → IsWithin (2 ^ 30) b →
    nat_abs (dot a b) ≤ 2 ^ 61
dot_bound a b ha hb =
    let x : nat_abs a.x * nat_abs b.x ≤ 2 ^ 30 * 2 ^ 30 = mul-le-mul ha.x hb.x in
    let y : nat_abs a.y * nat_abs b.y ≤ 2 ^ 30 * 2 ^ 30 = mul-le-mul ha.y hb.y in
    omega (arith, dot_size a b)

pub square_size : (a : Vector) →
    nat_abs (dot a a) ≡ nat_abs a.x * nat_abs a.x + nat_abs a.y * nat_abs a.y
square_size a = ap nat_abs (length_is a)

-- the code's double of a number and its sum with another fit, and are exact
pub record IsExactSum (m n : ℤ) : Type 0 where
  pub twice_fits : FitsSigned w64 (pos 2 *ℤ sent n)
  pub sum_fits : FitsSigned w64 (sent m +ℤ sent (pos 2 *ℤ sent n))
  pub value : sent (sent m +ℤ sent (pos 2 *ℤ sent n)) ≡ m +ℤ (pos 2 *ℤ n)

pub sum_exact : (m n : ℤ) → nat_abs m ≤ 2 ^ 61 → nat_abs n ≤ 2 ^ 61 → IsExactSum m n
sum_exact m n hm hn =
    let first : sent m ≡ m = sent_same m (omega (arith, ints)) in
    let second : sent n ≡ n = sent_same n (omega (arith, ints)) in
    let fits : FitsSigned w64 (pos 2 *ℤ n) = twice_fits n hn in
    let twice : sent (pos 2 *ℤ n) ≡ (pos 2 *ℤ n) = sent_same (pos 2 *ℤ n) fits in
    let sum = sum_fits m n hm hn in
    record {
      twice_fits = rw second fits;
      sum_fits = rw (first, second, twice) sum;
      value = rw (first, second, twice) (sent_same (m +ℤ (pos 2 *ℤ n)) sum);
    }
  where
    twice_fits : (n : ℤ) → nat_abs n ≤ 2 ^ 61 → FitsSigned w64 (pos 2 *ℤ n)
    twice_fits n h = omega (arith, ints)

    sum_fits : (m n : ℤ) → nat_abs m ≤ 2 ^ 61 → nat_abs n ≤ 2 ^ 61 →
        FitsSigned w64 (m +ℤ (pos 2 *ℤ n))
    sum_fits m n hm hn = omega (arith, ints)

-- x's sign given to s, times x, u and itself
pub times_signed : (x : ℤ) (s : ℕ) → x *ℤ signed x s ≡ pos (nat_abs x * s)
times_signed (pos n) s = refl
times_signed (negsuc n) zero = omega (arith, ints)
times_signed (negsuc n) (suc s) = refl

pub signed_times : (x u : ℤ) (s : ℕ) →
    signed x s *ℤ u ≡ pos (s * forward x u) -ℤ pos (s * against x u)
unfolding forward against
signed_times (pos m) (pos n) s = omega (arith, ints)
signed_times (pos m) (negsuc n) s = omega (arith, ints)
signed_times (negsuc m) (pos n) zero = omega (arith, ints)
signed_times (negsuc m) (pos n) (suc s) = omega (arith, ints)
signed_times (negsuc m) (negsuc n) zero = omega (arith, ints)
signed_times (negsuc m) (negsuc n) (suc s) = omega (arith, ints)

pub signed_square : (x : ℤ) (s : ℕ) → signed x s *ℤ signed x s ≡ pos (s * s)
signed_square (pos n) s = refl
signed_square (negsuc n) zero = refl
signed_square (negsuc n) (suc s) = refl

-- twice a size that is at least that of the negative z reverses z's sign
recedes_from : (z : ℤ) (a b : ℕ) → z <ℤ pos 0 → nat_abs z ≤ a + b →
    pos 0 <ℤ (z +ℤ (pos 2 *ℤ (pos a +ℤ pos b)))
recedes_from z a b h k = grind (arith, ints)

-- sizes that reach the closing speed along r part the two
pub parting_up : (r u : Vector) (s t : ℕ) → dot r u <ℤ pos 0 →
    nat_abs (dot r u) ≤ nat_abs r.x * s + nat_abs r.y * t → pos 0 <ℤ parting r u (with_signs r s t)
parting_up r u s t h k =
    rw (times_signed r.x s, times_signed r.y t)
    (recedes_from (dot r u) (nat_abs r.x * s) (nat_abs r.y * t) h k)

pub size_positive : (z : ℤ) → z <ℤ pos 0 → 0 < nat_abs z
size_positive z h = grind (arith, ints)
