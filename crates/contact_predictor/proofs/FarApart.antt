-- Disks that are further apart on an axis than their distance of contact and the way of a tick have no contact now.
use Rattle.std.proofs.Common.{◌≡◌, ◌⊎◌, inl, inr, ℕ, ◌+◌, ◌-◌, ◌*◌, ◌<◌, ◌≤◌, sym, ap, subst, arith, refl}
use Rattle.std.specs.Prelude.{ℤ, pos, negsuc, nat_abs, ◌+ℤ◌, ◌-ℤ◌, ◌*ℤ◌, ◌≤ℤ◌, ◌<ℤ◌}
use Rattle.std.proofs.lemmas.Int.{ints, by_lt_z}
use Rattle.std.proofs.lemmas.Bool.{cases_lt}
use Rattle.std.proofs.Math.IntN.{+ℤ_comm}
use Rattle.std.proofs.Math.Nat.{mul-le-mul, mul-le-mul_left}
use Rattle.plane_vectors.specs.declared.Vector.{Vector}
use Rattle.plane_vectors.specs.Vectors.{vector, sum, dot}
use Rattle.plane_vectors.proofs.Directions.{forward, against, sides, closing, square_is, length_is}
use Rattle.contact_predictor.specs.Contact.{gap, IsApproaching, IsCollisionCourse, IsContact}
use Rattle.contact_predictor.proofs.Approaching.{dot_next}

-- ---- natural numbers
-- u and v are m apart
Apart : ℕ → ℕ → ℕ → Type 0
Apart u v m = (u ≡ v + m) ⊎ (v ≡ u + m)

apart_by : (u v : ℕ) → Apart u v (u - v + (v - u))
unfolding Apart
apart_by u v = elim (cases_lt u v) [ inl h ↦ inr (omega arith) | inr h ↦ inl (omega arith) ]

square_over : (u v m : ℕ) → u ≡ v + m → m * m + 2 * (u * v) ≡ u * u + v * v
square_over u v m e = rw e (omega arith)

apart_square : (u v m : ℕ) → Apart u v m → m * m + 2 * (u * v) ≡ u * u + v * v
unfolding Apart
apart_square u v m h = elim h [ inl e ↦ square_over u v m e | inr e ↦ omega (arith, square_over v u m e) ]

-- r = (x, y) without signs, u = (f - g, h - k), a = u·u, b = -r·u; at the moment at which the disks are nearest their separation
-- times a is (p, z)
nearest_square : (x y f g h k a b p z : ℕ) →
    a + (2 * (f * g) + 2 * (h * k)) ≡ (f * f + g * g) + (h * h + k * k) →
    b + (x * f + y * h) ≡ x * g + y * k →
    a * x + b * f ≡ p + b * g →
    Apart (a * y + b * h) (b * k) z →
    (p * p + z * z) + a * (b * b) ≡ (a * a) * (x * x + y * y)
nearest_square x y f g h k a b p z size close first second =
    let along : p * p + 2 * ((p + b * g) * (b * g)) ≡ (p + b * g) * (p + b * g) + (b * g) * (b * g) = omega arith in
    let along2 : p * p + 2 * ((a * x + b * f) * (b * g)) ≡ (a * x + b * f) * (a * x + b * f) + (b * g) * (b * g) =
    subst (λ (n : ℕ). p * p + 2 * (n * (b * g)) ≡ n * n + (b * g) * (b * g)) (sym first) along in
    let across = apart_square (a * y + b * h) (b * k) z second in
    let closed : (a * b) * (b + (x * f + y * h)) ≡ (a * b) * (x * g + y * k) = ap (λ (n : ℕ). (a * b) * n) close in
    let sized : (b * b) * (a + (2 * (f * g) + 2 * (h * k))) ≡ (b * b) * ((f * f + g * g) + (h * h + k * k)) = ap (λ (n : ℕ). (b * b) * n) size in
    omega arith

-- if the first component stays at least d, the disks are at least d apart at the moment at which they are nearest
keeps_apart : (x y f g h k a b d w p z : ℕ) → 0 < a → b ≤ a → g ≤ w → d + w ≤ x →
    a + (2 * (f * g) + 2 * (h * k)) ≡ (f * f + g * g) + (h * h + k * k) →
    b + (x * f + y * h) ≡ x * g + y * k → a * x + b * f ≡ p + b * g → Apart (a * y + b * h) (b * k) z →
    ¬ (a * (x * x + y * y) < b * b + a * (d * d))
keeps_apart x y f g h k a b d w p z some within slow far size close first second crosses =
    let square = nearest_square x y f g h k a b p z size close first second in
    let scaled : a * (a * (x * x + y * y)) < a * (b * b + a * (d * d)) = times_less a (a * (x * x + y * y)) (b * b + a * (d * d)) some crosses in
    let near : p * p < (a * d) * (a * d) = omega arith in
    let long : a * (d + w) ≤ a * x = mul-le-mul_left a far in
    let short : b * g ≤ a * w = mul-le-mul within slow in
    let reach : a * d ≤ p = omega arith in
    let over : (a * d) * (a * d) ≤ p * p = mul-le-mul reach reach in
    omega arith
  where
    times_less : (a m n : ℕ) → 0 < a → m < n → a * m < a * n
    times_less a m n some lt = let le : a * (m + 1) ≤ a * n = mul-le-mul_left a (omega arith) in omega arith

-- ---- signed numbers
-- the speed, from its two sides on each axis
sized : (f g h k m n : ℕ) → m ≡ f + g → f * g ≡ 0 → n ≡ h + k → h * k ≡ 0 →
    (m * m + n * n) + (2 * (f * g) + 2 * (h * k)) ≡ (f * f + g * g) + (h * h + k * k)
sized f g h k m n e p q r = rw (e, q) (omega arith)

-- the discriminant's test on natural numbers
crossing_is : (a b c n : ℕ) (z : ℤ) → pos 0 ≤ℤ z → z ≡ pos n -ℤ pos c → (pos a *ℤ z) <ℤ pos (b * b) → a * n < b * b + a * c
crossing_is a b c n (pos e) some is lt =
    let sum : n ≡ e + c = omega (arith, ints) in
    let less : a * e < b * b = omega (arith, ints) in
    rw sum (omega arith)
crossing_is a b c n (negsuc e) some is lt = absurd (omega (arith, ints))

negative_size : (n : ℤ) (a : ℕ) → n <ℤ pos 0 → pos 0 ≤ℤ (n +ℤ pos a) → (0 < nat_abs n) × (nat_abs n ≤ a)
negative_size n a lt le = (omega (arith, ints), omega (arith, ints))

-- one tick moves the first component by its velocity, so it stays at least the distance
far_next : (x u d : ℤ) → nat_abs d + nat_abs u ≤ nat_abs x → nat_abs d ≤ nat_abs (x +ℤ u)
far_next x u d far = omega (arith, ints)

far_gap : (r : Vector) (distance : ℤ) → nat_abs distance ≤ nat_abs r.x → pos 0 ≤ℤ gap r distance
far_gap r distance far =
    let squares : nat_abs distance * nat_abs distance ≤ nat_abs r.x * nat_abs r.x = mul-le-mul far far in
    rw (length_is r, square_is distance)
    (over (nat_abs r.x * nat_abs r.x + nat_abs r.y * nat_abs r.y) (nat_abs distance * nat_abs distance) (omega arith))
  where
    over : (m n : ℕ) → n ≤ m → pos 0 ≤ℤ (pos m -ℤ pos n)
    over m n le = omega (arith, ints)

-- ---- vectors
-- the disks come nearest within the tick, and don't overlap then
never_within : (r u : Vector) (distance : ℤ) → nat_abs distance + nat_abs u.x ≤ nat_abs r.x →
    IsApproaching r u distance → IsCollisionCourse r u distance → ¬ (pos 0 ≤ℤ (dot r u +ℤ dot u u))
never_within r u distance far now crossing recede =
    let x = nat_abs r.x in
    let y = nat_abs r.y in
    let f = forward r.x u.x in
    let g = against r.x u.x in
    let h = forward r.y u.y in
    let k = against r.y u.y in
    let w = nat_abs u.x in
    let a = w * w + nat_abs u.y * nat_abs u.y in
    let b = nat_abs (dot r u) in
    let d = nat_abs distance in
    let across = sides r.x u.x in
    let upwards = sides r.y u.y in
    let sizes = negative_size (dot r u) a now.approaching (subst (λ (n : ℤ). pos 0 ≤ℤ (dot r u +ℤ n)) (length_is u) recede) in
    let back : g ≤ w = (let e : nat_abs u.x ≡ f + g = across.0 in omega arith) in
    let room : b * g ≤ a * x = mul-le-mul sizes.1 (omega arith) in
    let test : (pos a *ℤ gap r distance) <ℤ pos (b * b) =
    subst (λ (n : ℤ). (n *ℤ gap r distance) <ℤ pos (b * b)) (length_is u)
    (subst (λ (n : ℤ). (dot u u *ℤ gap r distance) <ℤ n) (square_is (dot r u)) crossing) in
    let is : gap r distance ≡ pos (x * x + y * y) -ℤ pos (d * d) = rw (length_is r, square_is distance) refl in
    keeps_apart x y f g h k a b d w ((a * x + b * f) - b * g) (a * y + b * h - b * k + (b * k - (a * y + b * h)))
    (omega arith) sizes.1 back far
    (sized f g h k (nat_abs u.x) (nat_abs u.y) across.0 across.1 upwards.0 upwards.1)
    (closing r u now.approaching) (omega arith) (apart_by (a * y + b * h) (b * k))
    (crossing_is a b (d * d) (x * x + y * y) (gap r distance) now.apart is test)

pub far_apart : (r u : Vector) (distance : ℤ) → nat_abs distance + nat_abs u.x ≤ nat_abs r.x → ¬ IsContact r u distance
far_apart r u distance far h =
    let apart = far_gap (sum r u) distance (far_next r.x u.x distance far) in
    let recede : pos 0 ≤ℤ dot (sum r u) u =
    by_lt_z (dot (sum r u) u) (pos 0) (λ approaching. absurd (h.last (record { apart = apart; approaching = approaching }))) (λ le. le) in
    never_within r u distance far h.approaching h.crossing (subst (λ (n : ℤ). pos 0 ≤ℤ n) (dot_next r u) recede)

-- ---- the other axis
swapped : Vector → Vector
swapped v = vector v.y v.x

dot_swapped : (a b : Vector) → dot a b ≡ dot (swapped a) (swapped b)
unfolding swapped
dot_swapped a b = +ℤ_comm (a.x *ℤ b.x) (a.y *ℤ b.y)

approaching_swapped : (r u : Vector) (distance : ℤ) → IsApproaching r u distance → IsApproaching (swapped r) (swapped u) distance
approaching_swapped r u distance h = record {
  apart = subst (λ (n : ℤ). pos 0 ≤ℤ (n -ℤ (distance *ℤ distance))) (dot_swapped r r) h.apart;
  approaching = subst (λ (n : ℤ). n <ℤ pos 0) (dot_swapped r u) h.approaching;
}

crossing_swapped : (r u : Vector) (distance : ℤ) → IsCollisionCourse r u distance → IsCollisionCourse (swapped r) (swapped u) distance
crossing_swapped r u distance h =
    let b = dot (swapped r) (swapped u) in
    subst (λ (n : ℤ). (dot (swapped u) (swapped u) *ℤ (n -ℤ (distance *ℤ distance))) <ℤ (b *ℤ b)) (dot_swapped r r)
    (subst (λ (n : ℤ). (n *ℤ gap r distance) <ℤ (b *ℤ b)) (dot_swapped u u)
    (subst (λ (n : ℤ). (dot u u *ℤ gap r distance) <ℤ (n *ℤ n)) (dot_swapped r u) h))

contact_swapped : (r u : Vector) (distance : ℤ) → IsContact r u distance → IsContact (swapped r) (swapped u) distance
unfolding swapped
contact_swapped r u distance h = record {
  approaching = approaching_swapped r u distance h.approaching;
  crossing = crossing_swapped r u distance h.crossing;
  last = λ next. h.last (approaching_swapped (sum (swapped r) (swapped u)) (swapped u) distance next);
}

pub far_above : (r u : Vector) (distance : ℤ) → nat_abs distance + nat_abs u.y ≤ nat_abs r.y → ¬ IsContact r u distance
unfolding swapped
far_above r u distance far h = far_apart (swapped r) (swapped u) distance far (contact_swapped r u distance h)
