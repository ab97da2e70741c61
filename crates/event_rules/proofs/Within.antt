-- Two disks that are apart at a tick, and overlap within the tick that follows, are in contact.
use Rattle.std.proofs.Common.{◌≡◌, ℕ, suc, ◌+◌, ◌-◌, ◌*◌, ◌<◌, ◌≤◌, inl, inr, subst, ap, ◌∙◌, sym, refl, arith}
use Rattle.std.specs.Prelude.{ℤ, pos, negsuc, ◌+ℤ◌, ◌-ℤ◌, ◌*ℤ◌, ◌≤ℤ◌, ◌<ℤ◌}
use Rattle.std.proofs.lemmas.Int.{ints, by_lt_z}
use Rattle.std.proofs.lemmas.Bool.{cases_lt}
use Rattle.std.proofs.Math.Nat.{mul-le-mul_left}
use Rattle.plane_vectors.specs.declared.Vector.{Vector}
use Rattle.plane_vectors.specs.Vectors.{vector, dot, after}
use borrow.Author.Differences.{up, down, product_is, same_in}
use Rattle.plane_vectors.proofs.Products.{distributes, square_of_sum}
use Rattle.contact_predictor.specs.Contact.{gap, IsContact}
use Rattle.contact_predictor.proofs.Approaching.{gap_next, dot_next, speed_not_negative}
use Rattle.event_rules.proofs.OneTick.{below_either}

-- ---- the quadratic, for natural numbers
-- if q^2 k + p^2 m is below 2 p q n, m k is below the square of n: else the mean of two numbers would be below that of
-- their product
crossing_within : (m n k p q : ℕ) → (q * q) * k + (p * p) * m < (p * q) * n + (p * q) * n → m * k < n * n
crossing_within m n k p q h =
    let product : ((q * q) * k) * ((p * p) * m) < ((p * q) * n) * ((p * q) * n) =
    below_either ((q * q) * k) ((p * p) * m) ((p * q) * n) h in
    elim (cases_lt (m * k) (n * n)) [
      | inl lt ↦ lt
      | inr le ↦ absurd (let over : ((p * q) * (p * q)) * (n * n) ≤ ((p * q) * (p * q)) * (m * k) =
          mul-le-mul_left ((p * q) * (p * q)) le in omega arith)
    ]

-- if the disks still approach a tick later, and are apart, the least of the gaps up to there is that one
approach_within : (m e f p d : ℕ) →
    ((p + d) * (p + d)) * (m + (2 * e + f)) + (p * p) * m < (p * (p + d)) * (m + e) + (p * (p + d)) * (m + e) → ⊥
approach_within m e f p d h = omega arith

approaching_within : (m n k p q : ℕ) → p ≤ q → m < n → n + n ≤ k + m →
    (q * q) * k + (p * p) * m < (p * q) * n + (p * q) * n → ⊥
approaching_within m n k p q le near apart h =
    by_parts (q - p) (n - m) (k + m - (n + n)) (omega arith) (omega arith) (omega arith)
  where
    by_parts : (d e f : ℕ) → q ≡ p + d → n ≡ m + e → k ≡ m + (2 * e + f) → ⊥
    by_parts d e f way speed rest = approach_within m e f p d (rw (way, speed, rest) at h)

-- ---- the same, for whole numbers
abbrev quadratic : ℤ → ℤ → ℤ → ℕ → ℕ → ℤ
quadratic a b c p q =
    ((c *ℤ pos (q * q)) +ℤ ((b *ℤ pos (p * q)) +ℤ (b *ℤ pos (p * q)))) +ℤ (a *ℤ pos (p * p))

record Meets (a b c : ℤ) : Type 0 where
  pub approaching : b <ℤ pos 0
  pub crossing : (a *ℤ c) <ℤ (b *ℤ b)
  pub last : pos 0 ≤ℤ ((c +ℤ (b +ℤ b)) +ℤ a) → (b +ℤ a) <ℤ pos 0 → ⊥

meets : (a b c : ℤ) (p q : ℕ) → pos 0 ≤ℤ a → pos 0 ≤ℤ c → p ≤ q → quadratic a b c p q <ℤ pos 0 → Meets a b c
meets (pos m) (negsuc n) (pos k) p q ha hc le h =
    let below : (q * q) * k + (p * p) * m < (p * q) * suc n + (p * q) * suc n = omega (arith, ints) in
    let crosses : m * k < suc n * suc n = crossing_within m (suc n) k p q below in
    record {
      approaching = omega (arith, ints);
      crossing = omega (arith, ints);
      last = λ apart near.
          approaching_within m (suc n) k p q le (omega (arith, ints)) (omega (arith, ints)) below;
    }
meets (pos m) (pos n) (pos k) p q ha hc le h = absurd (omega (arith, ints))
meets (negsuc m) b c p q ha hc le h = absurd (omega (arith, ints))
meets (pos m) b (negsuc k) p q ha hc le h = absurd (omega (arith, ints))

-- ---- vectors
-- a number of times as long
abbrev pub scaled : Vector → ℕ → Vector
scaled r q = vector (r.x *ℤ pos q) (r.y *ℤ pos q)

pub minus_times : (a b c : ℤ) → (a -ℤ b) *ℤ c ≡ (a *ℤ c) -ℤ (b *ℤ c)
minus_times a b c =
    let e : (a -ℤ b) +ℤ b ≡ a = omega (arith, ints) in
    let way : a *ℤ c ≡ ((a -ℤ b) *ℤ c) +ℤ (b *ℤ c) = sym (ap (λ (z : ℤ). z *ℤ c) e) ∙ distributes (a -ℤ b) b c in
    omega (arith, ints)

-- the two sides of a product
pub product_sides : (a b : ℤ) (x y z w : ℕ) → up a ≡ x → down a ≡ y → up b ≡ z → down b ≡ w →
    (up (a *ℤ b) ≡ x * z + y * w) × (down (a *ℤ b) ≡ x * w + y * z)
product_sides a b x y z w e f g h = rw (← e, ← f, ← g, ← h) (product_is a b)

product_times : (x v : ℤ) (p q : ℕ) → (x *ℤ pos q) *ℤ (v *ℤ pos p) ≡ (x *ℤ v) *ℤ pos (p * q)
product_times x v p q =
    let first =
    product_sides (x *ℤ pos q) (v *ℤ pos p) (up x * q) (down x * q) (up v * p) (down v * p)
    (omega (arith, ints)) (omega (arith, ints)) (omega (arith, ints)) (omega (arith, ints)) in
    let both = product_is x v in
    let second =
    product_sides (x *ℤ v) (pos (p * q)) (up x * up v + down x * down v) (up x * down v + down x * up v) (p * q) 0
    both.0 both.1 refl refl in
    same_in ((x *ℤ pos q) *ℤ (v *ℤ pos p)) ((x *ℤ v) *ℤ pos (p * q)) (omega arith)

-- the square of a component at a moment
square_at : (x v : ℤ) (p q : ℕ) →
    ((x *ℤ pos q) +ℤ (v *ℤ pos p)) *ℤ ((x *ℤ pos q) +ℤ (v *ℤ pos p)) ≡ quadratic (v *ℤ v) (x *ℤ v) (x *ℤ x) p q
square_at x v p q =
    let outer = product_times x x q q in
    let middle = product_times x v p q in
    let inner = product_times v v p p in
    square_of_sum (x *ℤ pos q) (v *ℤ pos p)
    ∙ (λ i. (outer i +ℤ (middle i +ℤ middle i)) +ℤ inner i)

-- the squared gap at a moment
gap_at : (r u : Vector) (distance : ℤ) (p q : ℕ) →
    gap (after (scaled r q) u p) (distance *ℤ pos q) ≡ quadratic (dot u u) (dot r u) (gap r distance) p q
gap_at r u distance p q =
    let across = square_at r.x u.x p q in
    let upwards = square_at r.y u.y p q in
    let square = product_times distance distance q q in
    let c = minus_times (dot r r) (distance *ℤ distance) (pos (q * q)) in
    let cc = distributes (r.x *ℤ r.x) (r.y *ℤ r.y) (pos (q * q)) in
    let b = distributes (r.x *ℤ u.x) (r.y *ℤ u.y) (pos (p * q)) in
    let a = distributes (u.x *ℤ u.x) (u.y *ℤ u.y) (pos (p * p)) in
    omega (arith, ints)

-- disks that are apart at a tick, and overlap at a moment of it, are in contact
pub contact_within : (r u : Vector) (distance : ℤ) (p q : ℕ) → p ≤ q → ¬ (dot r r <ℤ (distance *ℤ distance)) →
    dot (after (scaled r q) u p) (after (scaled r q) u p) <ℤ ((distance *ℤ pos q) *ℤ (distance *ℤ pos q)) →
    IsContact r u distance
contact_within r u distance p q le apart overlap =
    let c : pos 0 ≤ℤ gap r distance = not_below (dot r r) (distance *ℤ distance) apart in
    let w = after (scaled r q) u p in
    let below : gap w (distance *ℤ pos q) <ℤ pos 0 =
    less_below (dot w w) ((distance *ℤ pos q) *ℤ (distance *ℤ pos q)) overlap in
    let is =
    meets (dot u u) (dot r u) (gap r distance) p q (speed_not_negative u) c le
    (subst (λ (z : ℤ). z <ℤ pos 0) (gap_at r u distance p q) below) in
    record {
      approaching = record { apart = c; approaching = is.approaching };
      crossing = is.crossing;
      last = λ later. is.last (subst (λ (z : ℤ). pos 0 ≤ℤ z) (gap_next r u distance) later.apart)
          (subst (λ (z : ℤ). z <ℤ pos 0) (dot_next r u) later.approaching);
    }
  where
    not_below : (m n : ℤ) → ¬ (m <ℤ n) → pos 0 ≤ℤ (m -ℤ n)
    not_below m n h = by_lt_z m n (λ lt. absurd (h lt)) (λ le. omega (arith, ints))

    less_below : (m n : ℤ) → m <ℤ n → (m -ℤ n) <ℤ pos 0
    less_below m n h = omega (arith, ints)
