-- How far the impulse's two roundings are from the exact one.
use Rattle.std.proofs.Common.{◌≡◌, ℕ, zero, suc, ◌+◌, ◌-◌, ◌*◌, ◌<◌, ◌≤◌, subst, refl, arith}
use Rattle.std.specs.Prelude.{ℤ, pos, negsuc, nat_abs, ◌+ℤ◌, ◌*ℤ◌, ◌≤ℤ◌, ◌<ℤ◌}
use Rattle.std.proofs.lemmas.Int.{ints}
use Rattle.plane_vectors.specs.declared.Vector.{Vector}
use Rattle.plane_vectors.specs.Vectors.{dot}
use Rattle.contact_predictor.proofs.Approaching.{speed_not_negative}
use Rattle.impulse_rounding.specs.Impulse.{nearest, ceiling, signed, rounded_impulse, parting}
use Rattle.impulse_rounding.proofs.Exact.{square_positive, of_either, recedes, takes_nearest, takes_up}
use Rattle.real_collisions.specs.Elastic.{IsWithinOne, IsWithinHalf, IsNotSmaller, ImpulsesAreElastic}

-- ---- one component
-- what is between two numbers
abbrev distance : ℕ → ℕ → ℕ
distance m n = (m - n) + (n - m)

size_of_difference : (n b x : ℤ) (s : ℕ) → pos 0 ≤ℤ n → b <ℤ pos 0 →
    nat_abs ((n *ℤ signed x s) +ℤ (b *ℤ x)) ≡ distance (nat_abs n * s) (nat_abs b * nat_abs x)
size_of_difference (pos n) (negsuc b) (pos x) s hn hb = grind (arith, ints)
size_of_difference (pos n) (negsuc b) (negsuc x) zero hn hb = grind (arith, ints)
size_of_difference (pos n) (negsuc b) (negsuc x) (suc s) hn hb = grind (arith, ints)
size_of_difference (pos n) (pos b) x s hn hb = absurd (omega (arith, ints))
size_of_difference (negsuc n) b x s hn hb = absurd (omega (arith, ints))

size_of_signed : (x : ℤ) (s : ℕ) → nat_abs (signed x s) ≡ s
size_of_signed (pos n) s = refl
size_of_signed (negsuc n) zero = refl
size_of_signed (negsuc n) (suc s) = refl

-- ---- the quotients
near_nearest : (n d : ℕ) → 0 < d → 2 * distance (d * nearest n d) n ≤ d
near_nearest n d some = grind arith

near_ceiling : (n d : ℕ) → 0 < d → distance (d * ceiling n d) n < d
near_ceiling n d some = grind arith

above_ceiling : (n d : ℕ) → 0 < d → n ≤ d * ceiling n d
above_ceiling n d some = grind arith

-- ---- both components
nearest_is : (r u : Vector) → dot r u <ℤ pos 0 → IsWithinHalf r u (rounded_impulse nearest r u)
nearest_is r u h =
    let n = nat_abs (dot r r) in
    let b = nat_abs (dot r u) in
    let some = square_positive r u h in
    let square = speed_not_negative r in
    let x = nearest (b * nat_abs r.x) n in
    let y = nearest (b * nat_abs r.y) n in (
      rw (size_of_difference (dot r r) (dot r u) r.x x square h) (near_nearest (b * nat_abs r.x) n some),
      rw (size_of_difference (dot r r) (dot r u) r.y y square h) (near_nearest (b * nat_abs r.y) n some),
    )

ceiling_is : (r u : Vector) → dot r u <ℤ pos 0 → IsWithinOne r u (rounded_impulse ceiling r u)
ceiling_is r u h =
    let n = nat_abs (dot r r) in
    let b = nat_abs (dot r u) in
    let some = square_positive r u h in
    let square = speed_not_negative r in
    let x = ceiling (b * nat_abs r.x) n in
    let y = ceiling (b * nat_abs r.y) n in (
      rw (size_of_difference (dot r r) (dot r u) r.x x square h) (near_ceiling (b * nat_abs r.x) n some),
      rw (size_of_difference (dot r r) (dot r u) r.y y square h) (near_ceiling (b * nat_abs r.y) n some),
    )

ceiling_not_smaller : (r u : Vector) → dot r u <ℤ pos 0 → IsNotSmaller r u (rounded_impulse ceiling r u)
ceiling_not_smaller r u h =
    let n = nat_abs (dot r r) in
    let b = nat_abs (dot r u) in
    let some = square_positive r u h in
    let x = ceiling (b * nat_abs r.x) n in
    let y = ceiling (b * nat_abs r.y) n in (
      rw (size_of_signed r.x x) (above_ceiling (b * nat_abs r.x) n some),
      rw (size_of_signed r.y y) (above_ceiling (b * nat_abs r.y) n some),
    )

-- a number that is at most half a unit off is less than one off
half_within_one : (r u j : Vector) → dot r u <ℤ pos 0 → IsWithinHalf r u j → IsWithinOne r u j
half_within_one r u j h near =
    let some = square_positive r u h in
    (half _ _ some near.0, half _ _ some near.1)
  where
    half : (m n : ℕ) → 0 < n → 2 * m ≤ n → m < n
    half m n some le = omega arith

pub impulses_are_elastic : ImpulsesAreElastic
impulses_are_elastic r u h =
    let near = rounded_impulse nearest r u in
    record {
      one = of_either (IsWithinOne r u) r u (λ _. half_within_one r u near h (nearest_is r u h)) (ceiling_is r u h);
      half = λ parts. subst (IsWithinHalf r u) (takes_nearest r u near (parting r u near) refl refl parts) (nearest_is r u h);
      up = λ stays. subst (IsNotSmaller r u) (takes_up r u near _ (parting r u near) refl refl stays refl) (ceiling_not_smaller r u h);
      recedes = recedes r u h;
    }
