-- The exact impulse's sizes, and that the two part after the sizes are rounded up.
use Rattle.std.proofs.Common.{◌≡◌, ℕ, ◌*◌, ◌^◌, ◌<◌, ◌≤◌, Bool, true, false, refl, ap, ◌∙◌, arith}
use Rattle.std.specs.Prelude.{ℤ, pos, nat_abs, int_lt, if◌then◌else◌, ◌<ℤ◌, ◌≤ℤ◌}
use Rattle.std.proofs.lemmas.Int.{ints}
use Rattle.plane_vectors.specs.declared.Vector.{Vector}
use Rattle.plane_vectors.specs.Vectors.{dot, IsWithin}
use Rattle.plane_vectors.proofs.Sizes.{dot_size}
use Rattle.impulse_rounding.specs.Impulse.{nearest, ceiling, with_signs, rounded_impulse, impulse_of, parting}
use Rattle.impulse_rounding.proofs.Signed.{square_size, size_positive, parting_up}
use Rattle.impulse_rounding.proofs.Sizes.{quotient_bounds, some_square}
use Rattle.impulse_rounding.proofs.Sizes.{ceiling_above, rounded_up_reach}

-- disks that approach each other don't have one centre
pub square_positive : (r u : Vector) → dot r u <ℤ pos 0 → 0 < nat_abs (dot r r)
square_positive r u h =
    rw (square_size r)
    (some_square (nat_abs r.x) (nat_abs r.y) (nat_abs u.x) (nat_abs u.y) (nat_abs (dot r u))
    (size_positive (dot r u) h) (dot_size r u))

-- the sizes are at most 2 ^ 22
pub record IsSmall (r u : Vector) : Type 0 where
  pub x : nat_abs (dot r u) * nat_abs r.x ≤ 2 ^ 22 * nat_abs (dot r r)
  pub y : nat_abs (dot r u) * nat_abs r.y ≤ 2 ^ 22 * nat_abs (dot r r)

pub small : (r u : Vector) → IsWithin (2 ^ 21) u → IsSmall r u
small r u h =
    let bounds = quotient_bounds (nat_abs r.x) (nat_abs r.y) (nat_abs u.x) (nat_abs u.y)
    (nat_abs (dot r u)) h.x h.y (dot_size r u) in
    record { x = rw (square_size r) bounds.0; y = rw (square_size r) bounds.1 }

-- what holds for the nearest impulse if the two then recede, and for the impulse rounded up, holds for the one taken
pub of_either : (P : Vector → Type 0) (r u : Vector) →
    (pos 0 <ℤ parting r u (rounded_impulse nearest r u) → P (rounded_impulse nearest r u)) →
    P (rounded_impulse ceiling r u) → P (impulse_of r u)
of_either P r u near up = by (int_lt (pos 0) (parting r u (rounded_impulse nearest r u))) refl
  where
    by : (b : Bool) → int_lt (pos 0) (parting r u (rounded_impulse nearest r u)) ≡ b →
        P (if b then rounded_impulse nearest r u else rounded_impulse ceiling r u)
    by true e = near (omega (arith, ints))
    by false e = up

ceiling_recedes : (r u : Vector) → dot r u <ℤ pos 0 →
    pos 0 <ℤ parting r u (rounded_impulse ceiling r u)
ceiling_recedes r u h =
    let b = nat_abs (dot r u) in
    let n = nat_abs (dot r r) in
    let s = ceiling (b * nat_abs r.x) n in
    let t = ceiling (b * nat_abs r.y) n in
    let positive : 0 < n = square_positive r u h in
    let x = ceiling_above (b * nat_abs r.x) n positive in
    let y = ceiling_above (b * nat_abs r.y) n positive in
    parting_up r u s t h
    (rounded_up_reach (nat_abs r.x) (nat_abs r.y) b s t n (square_size r) positive x y)

-- the two recede after the impulse
pub recedes : (r u : Vector) → dot r u <ℤ pos 0 → pos 0 <ℤ parting r u (impulse_of r u)
recedes r u h =
    of_either (λ (j : Vector). pos 0 <ℤ parting r u j) r u (λ near. near) (ceiling_recedes r u h)

-- the exact sizes, rounded
pub sizes_are : (round : ℕ → ℕ → ℕ) (r u : Vector) (x y n : ℕ) (v : Vector) → x ≡ nat_abs (dot r u) * nat_abs r.x → y ≡ nat_abs (dot r u) * nat_abs r.y →
    n ≡ nat_abs (dot r r) → v ≡ with_signs r (round x n) (round y n) → v ≡ rounded_impulse round r u
sizes_are round r u x y n v ex ey en ev = rw (ev, ex, ey, en)

-- if the two recede after the nearest impulse, it is taken
pub takes_nearest : (r u near : Vector) (speed : ℤ) → near ≡ rounded_impulse nearest r u → speed ≡ parting r u near → pos 0 <ℤ speed → near ≡ impulse_of r u
takes_nearest r u near speed is parts fast = is ∙ by (int_lt (pos 0) (parting r u (rounded_impulse nearest r u))) refl
  where
    same : speed ≡ parting r u (rounded_impulse nearest r u)
    same = parts ∙ ap (parting r u) is

    by : (b : Bool) → int_lt (pos 0) (parting r u (rounded_impulse nearest r u)) ≡ b →
        rounded_impulse nearest r u ≡ (if b then rounded_impulse nearest r u else rounded_impulse ceiling r u)
    by true e = refl
    by false e = let parted = same in absurd (omega (arith, ints))

-- if they don't, the one rounded up is taken
pub takes_up : (r u near up : Vector) (speed : ℤ) → near ≡ rounded_impulse nearest r u → speed ≡ parting r u near → speed ≤ℤ pos 0 →
    up ≡ rounded_impulse ceiling r u → up ≡ impulse_of r u
takes_up r u near up speed is parts slow up_is = up_is ∙ by (int_lt (pos 0) (parting r u (rounded_impulse nearest r u))) refl
  where
    same : speed ≡ parting r u (rounded_impulse nearest r u)
    same = parts ∙ ap (parting r u) is

    by : (b : Bool) → int_lt (pos 0) (parting r u (rounded_impulse nearest r u)) ≡ b →
        rounded_impulse ceiling r u ≡ (if b then rounded_impulse nearest r u else rounded_impulse ceiling r u)
    by true e = let parted = same in absurd (omega (arith, ints))
    by false e = refl
