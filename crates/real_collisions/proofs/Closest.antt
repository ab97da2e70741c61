-- Two disks in contact overlap within the tick that follows: at its end, or at the moment at which they are nearest to
-- each other. Then the discriminant, which stays what it is, is positive with r·u = 0.
use Rattle.std.proofs.Common.{◌≡◌, ℕ, zero, suc, ◌+◌, ◌*◌, ◌<◌, ◌≤◌, subst, sym, ap, ◌∙◌, arith}
use Rattle.std.specs.Prelude.{ℤ, pos, negsuc, nat_abs, ◌+ℤ◌, ◌*ℤ◌, ◌≤ℤ◌, ◌<ℤ◌}
use Rattle.std.proofs.lemmas.Int.{ints, by_lt_z}
use Rattle.std.proofs.Math.Nat.{mul-le-mul, mul-le-mul_right}
use Rattle.plane_vectors.specs.declared.Vector.{Vector}
use Rattle.plane_vectors.specs.Vectors.{vector, sum, dot, after}
use Rattle.plane_vectors.proofs.Products.{distributes}
use Rattle.contact_predictor.specs.Contact.{gap, IsContact, IsCollisionCourse}
use Rattle.contact_predictor.proofs.Approaching.{after_next, after_none, dot_next, speed_not_negative, crossing_always}
use Rattle.event_rules.proofs.Within.{scaled, minus_times}
use Rattle.real_collisions.proofs.Numbers.{times_across, times_both}

-- at this part of the tick two disks overlap, with lengths given in parts
abbrev pub OverlapAfter : Vector → Vector → ℤ → ℕ → ℕ → Type 0
OverlapAfter r u distance part whole =
    dot (after (scaled r whole) u part) (after (scaled r whole) u part) <ℤ ((distance *ℤ pos whole) *ℤ (distance *ℤ pos whole))

pub record OverlapSoon (r u : Vector) (distance : ℤ) : Type 0 where
  pub part : ℕ
  pub whole : ℕ
  pub some : 0 < whole
  pub most : part ≤ whole
  pub overlap : OverlapAfter r u distance part whole

-- ---- lengths in parts
closing_in_parts : (r u : Vector) (q : ℕ) → dot (scaled r q) u ≡ dot r u *ℤ pos q
closing_in_parts r u q =
    let x = times_across r.x (pos q) u.x in
    let y = times_across r.y (pos q) u.y in
    let whole = distributes (r.x *ℤ u.x) (r.y *ℤ u.y) (pos q) in
    omega (arith, ints)

gap_in_parts : (r : Vector) (distance : ℤ) (q : ℕ) → gap (scaled r q) (distance *ℤ pos q) ≡ gap r distance *ℤ pos (q * q)
gap_in_parts r distance q =
    let x = times_both r.x (pos q) r.x (pos q) in
    let y = times_both r.y (pos q) r.y (pos q) in
    let square = times_both distance (pos q) distance (pos q) in
    let sum = distributes (r.x *ℤ r.x) (r.y *ℤ r.y) (pos (q * q)) in
    let whole = minus_times (dot r r) (distance *ℤ distance) (pos (q * q)) in
    omega (arith, ints)

-- the discriminant stays positive
crosses_in_parts : (a b c : ℤ) (q : ℕ) → 0 < q → pos 0 ≤ℤ a → pos 0 ≤ℤ c → (a *ℤ c) <ℤ (b *ℤ b) →
    (a *ℤ (c *ℤ pos (q * q))) <ℤ ((b *ℤ pos q) *ℤ (b *ℤ pos q))
crosses_in_parts a b c q some ha hc crosses = rw (times_both b (pos q) b (pos q)) (by_signs a c (b *ℤ b) ha hc crosses)
  where
    more : (m n k : ℕ) → m < n → 0 < k → m * k < n * k
    more m n k lt some = let whole : (m + 1) * k ≤ n * k = mul-le-mul_right k (omega arith) in omega arith

    by_signs : (a c d : ℤ) → pos 0 ≤ℤ a → pos 0 ≤ℤ c → (a *ℤ c) <ℤ d → (a *ℤ (c *ℤ pos (q * q))) <ℤ (d *ℤ pos (q * q))
    by_signs (pos m) (pos k) (pos n) ha hc lt =
        let square : 1 * 1 ≤ q * q = mul-le-mul some some in
        let below = more (m * k) n (q * q) (omega (arith, ints)) (omega arith) in
        omega (arith, ints)
    by_signs (pos m) (pos k) (negsuc n) ha hc lt = absurd (omega (arith, ints))
    by_signs (negsuc m) c d ha hc lt = absurd (omega (arith, ints))
    by_signs (pos m) (negsuc k) d ha hc lt = absurd (omega (arith, ints))

-- ---- the moment at which two disks are nearest
closing_after : (r u : Vector) (s : ℕ) → dot (after r u s) u ≡ dot r u +ℤ (dot u u *ℤ pos s)
closing_after r u zero =
    let first = ap (λ (p : Vector). dot p u) (after_none r u) in
    omega (arith, ints)
closing_after r u (suc s) =
    let e : suc s ≡ s + 1 = omega arith in
    let place = ap (λ (p : Vector). dot p u) (ap (after r u) e ∙ after_next r u s) in
    let next = dot_next (after r u s) u in
    let earlier = closing_after r u s in
    omega (arith, ints)

-- if r·u has become 0, the gap is negative
below_there : (a b c : ℤ) → pos 0 ≤ℤ a → b ≡ pos 0 → (a *ℤ c) <ℤ (b *ℤ b) → c <ℤ pos 0
below_there a b (negsuc k) ha hb lt = omega (arith, ints)
below_there (pos m) b (pos k) ha hb lt = absurd (let none : b *ℤ b ≡ pos 0 = rw hb (omega (arith, ints)) in omega (arith, ints))
below_there (negsuc m) b (pos k) ha hb lt = absurd (omega (arith, ints))

none_there : (a b : ℤ) → pos 0 ≤ℤ a → b <ℤ pos 0 → (b *ℤ pos (nat_abs a)) +ℤ (a *ℤ pos (nat_abs b)) ≡ pos 0
none_there (pos m) (negsuc n) ha hb = omega (arith, ints)
none_there (pos m) (pos n) ha hb = absurd (omega (arith, ints))
none_there (negsuc m) b ha hb = absurd (omega (arith, ints))

fast_enough : (a b : ℤ) → b <ℤ pos 0 → pos 0 ≤ℤ (b +ℤ a) → 0 < nat_abs a
fast_enough a b near parts = grind (arith, ints)

within : (a b : ℤ) → b <ℤ pos 0 → pos 0 ≤ℤ (b +ℤ a) → nat_abs b ≤ nat_abs a
within a b near parts = grind (arith, ints)

-- a gap below 0 is an overlap
overlaps_below : (r : Vector) (distance : ℤ) → gap r distance <ℤ pos 0 → dot r r <ℤ (distance *ℤ distance)
overlaps_below r distance h = omega (arith, ints)

nearest_overlaps : (r u : Vector) (distance : ℤ) → IsContact r u distance → pos 0 ≤ℤ (dot r u +ℤ dot u u) → OverlapSoon r u distance
nearest_overlaps r u distance contact parts =
    let a = dot u u in
    let b = dot r u in
    let near = contact.approaching.approaching in
    let fast = speed_not_negative u in
    let whole = nat_abs a in
    let part = nat_abs b in
    let some : 0 < whole = fast_enough a b near parts in
    let place = after (scaled r whole) u part in
    let length = distance *ℤ pos whole in
    let still : dot place u ≡ pos 0 =
    closing_after (scaled r whole) u part ∙ ap (λ (z : ℤ). z +ℤ (a *ℤ pos part)) (closing_in_parts r u whole) ∙ none_there a b fast near in
    let crosses : IsCollisionCourse (scaled r whole) u length =
    rw (gap_in_parts r distance whole, closing_in_parts r u whole)
    (crosses_in_parts a b (gap r distance) whole some fast contact.approaching.apart contact.crossing) in
    let there : IsCollisionCourse place u length = (crossing_always (scaled r whole) u length part).1 crosses in
    record {
      part = part;
      whole = whole;
      some = some;
      most = within a b near parts;
      overlap = overlaps_below place length (below_there a (dot place u) (gap place length) fast still there);
    }

-- ---- at the tick's end
end_overlaps : (r u : Vector) (distance : ℤ) → gap (sum r u) distance <ℤ pos 0 → OverlapSoon r u distance
end_overlaps r u distance h = record {
  part = 1;
  whole = 1;
  some = omega arith;
  most = omega arith;
  overlap = subst (λ (p : Vector). dot p p <ℤ ((distance *ℤ pos 1) *ℤ (distance *ℤ pos 1))) place
      (subst (λ (z : ℤ). dot (sum r u) (sum r u) <ℤ (z *ℤ z)) length (overlaps_below (sum r u) distance h));
}
  where
    length : distance ≡ distance *ℤ pos 1
    length = omega (arith, ints)

    coordinate : (x v : ℤ) → x +ℤ v ≡ (x *ℤ pos 1) +ℤ (v *ℤ pos 1)
    coordinate x v = omega (arith, ints)

    place : sum r u ≡ after (scaled r 1) u 1
    place = let x = coordinate r.x u.x in let y = coordinate r.y u.y in λ i. vector (x i) (y i)

pub contact_overlaps : (r u : Vector) (distance : ℤ) → IsContact r u distance → OverlapSoon r u distance
contact_overlaps r u distance contact =
    by_lt_z (dot r u +ℤ dot u u) (pos 0)
    (λ near. end_overlaps r u distance (by_lt_z (gap (sum r u) distance) (pos 0) (λ lt. lt)
    (λ apart. absurd (contact.last (record {
      apart = apart;
      approaching = subst (λ (z : ℤ). z <ℤ pos 0) (sym (dot_next r u)) near;
    })))))
    (nearest_overlaps r u distance contact)
