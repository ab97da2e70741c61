-- The energy clause: the signs of the numbers taken off, and the bound put in.
use Rattle.std.proofs.Common.{◌≡◌, ℕ, ◌+◌, ◌*◌, ◌<◌, ◌≤◌, arith}
use Rattle.std.specs.Prelude.{pos, nat_abs, ◌+ℤ◌, ◌-ℤ◌, ◌*ℤ◌, ◌<ℤ◌}
use Rattle.std.proofs.lemmas.Int.{ints}
use Rattle.plane_vectors.specs.declared.Vector.{Vector}
use Rattle.plane_vectors.specs.Vectors.{dot}
use Rattle.plane_vectors.proofs.Directions.{forward, against, sides, closing}
use Rattle.impulse_rounding.specs.Impulse.{nearest, ceiling, with_signs}
use Rattle.impulse_rounding.specs.Impulse.{rounded_impulse, impulse_of, energy_change}
use Rattle.impulse_rounding.proofs.Signed.{square_size, signed_times, signed_square}
use Rattle.impulse_rounding.proofs.Exact.{square_positive, of_either}
use Rattle.impulse_rounding.proofs.Energy.{kept}

difference_within : (u v w : ℕ) → u ≤ v + w → v ≤ u + w → nat_abs (pos u -ℤ pos v) ≤ w
difference_within u v w h k = grind (arith, ints)

-- 2 J·u + 2 J·J as one difference
change_is : (a b c d p q : ℕ) →
    (pos 2 *ℤ ((pos a -ℤ pos b) +ℤ (pos c -ℤ pos d))) +ℤ (pos 2 *ℤ (pos p +ℤ pos q))
    ≡ pos (2 * (p + q) + 2 * (a + c)) -ℤ pos (2 * (b + d))
change_is a b c d p q = omega (arith, ints)

change_over : (a b c d p q w : ℕ) → 2 * (p + q) + 2 * (a + c) ≤ 2 * (b + d) + w →
    2 * (b + d) ≤ 2 * (p + q) + 2 * (a + c) + w →
    nat_abs ((pos 2 *ℤ ((pos a -ℤ pos b) +ℤ (pos c -ℤ pos d))) +ℤ (pos 2 *ℤ (pos p +ℤ pos q))) ≤ w
change_over a b c d p q w h k = rw (change_is a b c d p q)
    (difference_within (2 * (p + q) + 2 * (a + c)) (2 * (b + d)) w h k)

-- the sizes s and t, with the signs of r, along u and against it
abbrev along : Vector → Vector → ℕ → ℕ → ℕ
along r u s t = s * forward r.x u.x + t * forward r.y u.y

abbrev opposed : Vector → Vector → ℕ → ℕ → ℕ
opposed r u s t = s * against r.x u.x + t * against r.y u.y

change_within : (r u : Vector) (s t w : ℕ) →
    2 * (s * s + t * t) + 2 * along r u s t ≤ 2 * opposed r u s t + w →
    2 * opposed r u s t ≤ 2 * (s * s + t * t) + 2 * along r u s t + w →
    nat_abs (energy_change u (with_signs r s t)) ≤ w
change_within r u s t w h k =
    rw (signed_times r.x u.x s, signed_times r.y u.y t, signed_square r.x s, signed_square r.y t)
    (change_over (s * forward r.x u.x) (s * against r.x u.x) (t * forward r.y u.y)
    (t * against r.y u.y) (s * s) (t * t) w h k)

-- q misses n / d by at most one
abbrev IsNear : ℕ → ℕ → ℕ → Type 0
IsNear n d q = (d * q ≤ n + d) × (n ≤ d * q + d)

abbrev IsKept : Vector → Vector → Type 0
IsKept u j = nat_abs (energy_change u j) ≤ 3 * (nat_abs u.x + nat_abs u.y) + 4

-- an impulse whose two sizes miss the exact ones by at most one
near_exact : (r u : Vector) (s t : ℕ) → dot r u <ℤ pos 0 →
    IsNear (nat_abs (dot r u) * nat_abs r.x) (nat_abs (dot r r)) s →
    IsNear (nat_abs (dot r u) * nat_abs r.y) (nat_abs (dot r r)) t → IsKept u (with_signs r s t)
near_exact r u s t h x y =
    let both = kept (nat_abs r.x) (nat_abs r.y) s t (forward r.x u.x) (against r.x u.x)
    (forward r.y u.y) (against r.y u.y) (nat_abs (dot r u)) (nat_abs (dot r r)) (square_size r)
    (square_positive r u h) (closing r u h) x.0 x.1 y.0 y.1 in
    let across = (sides r.x u.x).0 in
    let upwards = (sides r.y u.y).0 in
    change_within r u s t (3 * (nat_abs u.x + nat_abs u.y) + 4) (omega (arith, both))
    (omega (arith, both))

-- so for any rounding that misses by at most one
rounded_energy : (round : ℕ → ℕ → ℕ) (r u : Vector) → dot r u <ℤ pos 0 →
    ((n d : ℕ) → 0 < d → IsNear n d (round n d)) → IsKept u (rounded_impulse round r u)
rounded_energy round r u h near =
    let b = nat_abs (dot r u) in
    let n = nat_abs (dot r r) in
    let positive : 0 < n = square_positive r u h in
    near_exact r u (round (b * nat_abs r.x) n) (round (b * nat_abs r.y) n) h
    (near (b * nat_abs r.x) n positive) (near (b * nat_abs r.y) n positive)

-- the energy nearly stays
pub energy_kept : (r u : Vector) → dot r u <ℤ pos 0 →
    nat_abs (energy_change u (impulse_of r u)) ≤ 3 * (nat_abs u.x + nat_abs u.y) + 4
energy_kept r u h = of_either (IsKept u) r u (λ _. rounded_energy nearest r u h nearest_misses)
    (rounded_energy ceiling r u h ceiling_misses)
  where
    nearest_misses : (n d : ℕ) → 0 < d → IsNear n d (nearest n d)
    nearest_misses n d h = grind arith

    ceiling_misses : (n d : ℕ) → 0 < d → IsNear n d (ceiling n d)
    ceiling_misses n d h = grind arith
