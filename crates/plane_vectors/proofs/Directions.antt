-- Products of signed numbers and scalar products, in natural numbers: how far a number goes along another, and against it.
use Rattle.std.proofs.Common.{◌≡◌, ℕ, suc, ◌+◌, ◌*◌, refl, arith}
use Rattle.std.specs.Prelude.{ℤ, pos, negsuc, nat_abs, ◌+ℤ◌, ◌-ℤ◌, ◌*ℤ◌, ◌<ℤ◌}
use Rattle.std.proofs.lemmas.Int.{ints}
use Rattle.plane_vectors.specs.declared.Vector.{Vector}
use Rattle.plane_vectors.specs.Vectors.{dot}

-- how far u goes along x, and against it
unfoldable pub forward : ℤ → ℤ → ℕ
forward (pos m) (pos n) = n
forward (pos m) (negsuc n) = 0
forward (negsuc m) (pos n) = 0
forward (negsuc m) (negsuc n) = suc n

unfoldable pub against : ℤ → ℤ → ℕ
against (pos m) (pos n) = 0
against (pos m) (negsuc n) = suc n
against (negsuc m) (pos n) = n
against (negsuc m) (negsuc n) = 0

-- it goes one way at most
pub sides : (x u : ℤ) → (nat_abs u ≡ forward x u + against x u) × (forward x u * against x u ≡ 0)
unfolding forward against
sides (pos m) (pos n) = (omega arith, omega arith)
sides (pos m) (negsuc n) = (omega arith, omega arith)
sides (negsuc m) (pos n) = (omega arith, omega arith)
sides (negsuc m) (negsuc n) = (omega arith, omega arith)

pub times : (x u : ℤ) → x *ℤ u ≡ pos (nat_abs x * forward x u) -ℤ pos (nat_abs x * against x u)
unfolding forward against
times (pos m) (pos n) = omega (arith, ints)
times (pos m) (negsuc n) = omega (arith, ints)
times (negsuc m) (pos n) = omega (arith, ints)
times (negsuc m) (negsuc n) = omega (arith, ints)

closing_over : (a b c d : ℕ) → ((pos a -ℤ pos b) +ℤ (pos c -ℤ pos d)) <ℤ pos 0 →
    nat_abs ((pos a -ℤ pos b) +ℤ (pos c -ℤ pos d)) + (a + c) ≡ b + d
closing_over a b c d h = grind (arith, ints)

-- the size of a negative scalar product
pub closing : (r u : Vector) → dot r u <ℤ pos 0 →
    nat_abs (dot r u) + (nat_abs r.x * forward r.x u.x + nat_abs r.y * forward r.y u.y)
    ≡ nat_abs r.x * against r.x u.x + nat_abs r.y * against r.y u.y
closing r u h =
    rw (times r.x u.x, times r.y u.y)
    (closing_over (nat_abs r.x * forward r.x u.x) (nat_abs r.x * against r.x u.x) (nat_abs r.y * forward r.y u.y)
    (nat_abs r.y * against r.y u.y) (rw (times r.x u.x, times r.y u.y) at h))

pub square_is : (n : ℤ) → n *ℤ n ≡ pos (nat_abs n * nat_abs n)
square_is (pos n) = refl
square_is (negsuc n) = refl

-- the square of a vector's length
pub length_is : (v : Vector) → dot v v ≡ pos (nat_abs v.x * nat_abs v.x + nat_abs v.y * nat_abs v.y)
length_is v = rw (square_is v.x, square_is v.y) (omega (arith, ints))
