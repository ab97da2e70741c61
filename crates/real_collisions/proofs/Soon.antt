-- The moment at which two disks touch, as near as one likes.
use Rattle.std.proofs.Common.{◌≡◌, ◌⊎◌, inl, inr, ℕ, zero, suc, ◌+◌, ◌*◌, ◌<◌, ◌≤◌, subst, sym, ◌∙◌, arith}
use Rattle.std.specs.Prelude.{ℤ, pos, negsuc, ◌+ℤ◌, ◌-ℤ◌, ◌*ℤ◌, ◌≤ℤ◌, ◌<ℤ◌}
use Rattle.std.proofs.lemmas.Int.{ints, by_lt_z}
use Rattle.std.proofs.Math.Nat.{mul-le-mul, mul-le-mul_left}
use Rattle.plane_vectors.specs.declared.Vector.{Vector}
use Rattle.plane_vectors.specs.Vectors.{difference, dot}
use Rattle.fixed_motion.specs.declared.disk.Disk.{Disk}
use Rattle.fixed_motion.specs.Motion.{Overlaps, contact_distance, place_of}
use Rattle.event_rules.specs.Moments.{Moment, OverlapAt}
use Rattle.event_rules.proofs.Between.{separation_between}
use Rattle.event_rules.proofs.Within.{minus_times}
use Rattle.real_collisions.specs.Touching.{TouchFrom}
use Rattle.real_collisions.specs.AtTheTouch.{separation_after, relative_of, TouchesSoonAfter}
use Rattle.plane_vectors.proofs.Ring.{of, sum_of, less_of, times_of, same_of}

-- ---- finer parts
way_finer : (x v w p k : ℤ) → (x *ℤ (k *ℤ w)) +ℤ (v *ℤ (k *ℤ p)) ≡ ((x *ℤ w) +ℤ (v *ℤ p)) *ℤ k
way_finer x v w p k = rw (of x, of v, of w, of p, of k) (simp (times_of, sum_of, less_of) (same_of _ _ _ _ (omega arith)))

square_finer : (x y k : ℤ) → ((x *ℤ k) *ℤ (x *ℤ k)) +ℤ ((y *ℤ k) *ℤ (y *ℤ k)) ≡ ((x *ℤ x) +ℤ (y *ℤ y)) *ℤ (k *ℤ k)
square_finer x y k = rw (of x, of y, of k) (simp (times_of, sum_of, less_of) (same_of _ _ _ _ (omega arith)))

distance_finer : (d w k : ℤ) → (d *ℤ (k *ℤ w)) *ℤ (d *ℤ (k *ℤ w)) ≡ ((d *ℤ w) *ℤ (d *ℤ w)) *ℤ (k *ℤ k)
distance_finer d w k = rw (of d, of w, of k) (simp (times_of, sum_of, less_of) (same_of _ _ _ _ (omega arith)))

less_times : (a b : ℤ) (n : ℕ) → 0 < n → a <ℤ b → (a *ℤ pos n) <ℤ (b *ℤ pos n)
less_times a b n some lt =
    let more = positive (b -ℤ a) (omega (arith, ints)) in
    let way = minus_times b a (pos n) in
    omega (arith, ints)
  where
    positive : (d : ℤ) → pos 0 <ℤ d → pos 0 <ℤ (d *ℤ pos n)
    positive (pos zero) h = absurd (omega (arith, ints))
    positive (pos (suc d)) h =
        let one : 1 ≤ suc d = omega arith in
        let least : 1 * 1 ≤ suc d * n = mul-le-mul one some in
        omega (arith, ints)
    positive (negsuc d) h = absurd (omega (arith, ints))

-- an overlap, of the separation part / whole of a tick later
abbrev IsOverlap : Vector → Vector → ℤ → ℕ → ℕ → Type 0
IsOverlap r u distance part whole =
    let q = separation_after r u part whole in
    dot q q <ℤ ((distance *ℤ pos whole) *ℤ (distance *ℤ pos whole))

overlap_finer : (r u : Vector) (distance : ℤ) (part whole k : ℕ) → 0 < k → IsOverlap r u distance part whole →
    IsOverlap r u distance (k * part) (k * whole)
overlap_finer r u distance part whole k some h =
    let q = separation_after r u part whole in
    let x = way_finer r.x u.x (pos whole) (pos part) (pos k) in
    let y = way_finer r.y u.y (pos whole) (pos part) (pos k) in
    let square : dot (separation_after r u (k * part) (k * whole)) (separation_after r u (k * part) (k * whole)) ≡ dot q q *ℤ pos (k * k) =
    (λ i. (x i *ℤ x i) +ℤ (y i *ℤ y i)) ∙ square_finer q.x q.y (pos k) in
    let length = distance_finer distance (pos whole) (pos k) in
    let more : 1 * 1 ≤ k * k = mul-le-mul some some in
    in_place _ _ _ _ square length (less_times (dot q q) ((distance *ℤ pos whole) *ℤ (distance *ℤ pos whole)) (k * k) (omega arith) h)
  where
    in_place : (a b c d : ℤ) → a ≡ c → b ≡ d → c <ℤ d → a <ℤ b
    in_place a b c d p q h = rw (p, q) h

-- ---- the first part at which they overlap
record First (r u : Vector) (distance : ℤ) (whole n : ℕ) : Type 0 where
  pub part : ℕ
  pub below : part < n
  pub apart : (j : ℕ) → j ≤ part → ¬ IsOverlap r u distance j whole
  pub overlap : IsOverlap r u distance (part + 1) whole

search_to : (r u : Vector) (distance : ℤ) (whole n : ℕ) → ¬ IsOverlap r u distance 0 whole →
    ((j : ℕ) → j ≤ n → ¬ IsOverlap r u distance j whole) ⊎ First r u distance whole n
search_to r u distance whole zero none = inl (λ j le. subst (λ (i : ℕ). ¬ IsOverlap r u distance i whole) (least j le) none)
  where
    least : (j : ℕ) → j ≤ 0 → 0 ≡ j
    least j le = omega arith
search_to r u distance whole (suc n) none = elim (search_to r u distance whole n none) [
  | inr found ↦ inr (record { part = found.part; below = (let below = found.below in omega arith); apart = found.apart; overlap = found.overlap })
  | inl before ↦
      let q = separation_after r u (n + 1) whole in
      by_lt_z (dot q q) ((distance *ℤ pos whole) *ℤ (distance *ℤ pos whole))
      (λ lt. inr (record { part = n; below = omega arith; apart = before; overlap = lt }))
      (λ le. inl (λ j h. upto j h before (λ lt. over _ _ le lt)))
]
  where
    over : (a b : ℤ) → b ≤ℤ a → a <ℤ b → ⊥
    over a b le lt = omega (arith, ints)

    last : (j : ℕ) → j ≤ suc n → (j ≤ n) ⊎ (n + 1 ≡ j)
    last j le = grind arith

    upto : (j : ℕ) → j ≤ suc n → ((i : ℕ) → i ≤ n → ¬ IsOverlap r u distance i whole) → ¬ IsOverlap r u distance (n + 1) whole →
        ¬ IsOverlap r u distance j whole
    upto j h before here = elim (last j h) [
      | inl le ↦ before j le
      | inr e ↦ subst (λ (i : ℕ). ¬ IsOverlap r u distance i whole) e here
    ]

-- ---- of two disks
abbrev moment : ℕ → ℕ → ℕ → Moment
moment tick part whole = record { tick = tick; part = part; whole = whole }

as_vectors : (a b : Disk) (tick part whole : ℕ) → OverlapAt (moment tick part whole) a b →
    IsOverlap (difference (place_of a tick) (place_of b tick)) (relative_of a b) (contact_distance a b) part whole
as_vectors a b tick part whole h =
    subst (λ (q : Vector). dot q q <ℤ ((contact_distance a b *ℤ pos whole) *ℤ (contact_distance a b *ℤ pos whole)))
    (separation_between a b (moment tick part whole)) h

as_disks : (a b : Disk) (tick part whole : ℕ) →
    IsOverlap (difference (place_of a tick) (place_of b tick)) (relative_of a b) (contact_distance a b) part whole →
    OverlapAt (moment tick part whole) a b
as_disks a b tick part whole h =
    subst (λ (q : Vector). dot q q <ℤ ((contact_distance a b *ℤ pos whole) *ℤ (contact_distance a b *ℤ pos whole)))
    (sym (separation_between a b (moment tick part whole))) h

none_at_first : (a b : Disk) (tick whole : ℕ) → 0 < whole → ¬ Overlaps (contact_distance a b) (place_of a tick) (place_of b tick) →
    ¬ IsOverlap (difference (place_of a tick) (place_of b tick)) (relative_of a b) (contact_distance a b) 0 whole
none_at_first a b tick whole some apart h =
    let r = difference (place_of a tick) (place_of b tick) in
    let u = relative_of a b in
    let d = contact_distance a b in
    let x = still r.x u.x in
    let y = still r.y u.y in
    let square : dot (separation_after r u 0 whole) (separation_after r u 0 whole) ≡ dot r r *ℤ pos (whole * whole) =
    (λ i. (x i *ℤ x i) +ℤ (y i *ℤ y i)) ∙ square_finer r.x r.y (pos whole) in
    let length : (d *ℤ pos whole) *ℤ (d *ℤ pos whole) ≡ (d *ℤ d) *ℤ pos (whole * whole) = distance_square d (pos whole) in
    let over : (dot r r *ℤ pos (whole * whole)) <ℤ ((d *ℤ d) *ℤ pos (whole * whole)) = rw (← square, ← length) h in
    by_lt_z (dot r r) (d *ℤ d) apart (λ le. not_both _ _ (at_least (dot r r) (d *ℤ d) (whole * whole) le) over)
  where
    still : (x v : ℤ) → (x *ℤ pos whole) +ℤ (v *ℤ pos 0) ≡ x *ℤ pos whole
    still x v = omega (arith, ints)

    distance_square : (d w : ℤ) → (d *ℤ w) *ℤ (d *ℤ w) ≡ (d *ℤ d) *ℤ (w *ℤ w)
    distance_square d w = rw (of d, of w) (simp (times_of, sum_of, less_of) (same_of _ _ _ _ (omega arith)))

    not_both : (m n : ℤ) → n ≤ℤ m → m <ℤ n → ⊥
    not_both m n le lt = omega (arith, ints)

    at_least : (m n : ℤ) (k : ℕ) → n ≤ℤ m → (n *ℤ pos k) ≤ℤ (m *ℤ pos k)
    at_least m n k le =
        let more = not_negative (m -ℤ n) k (omega (arith, ints)) in
        let way = minus_times m n (pos k) in
        omega (arith, ints)
      where
        not_negative : (d : ℤ) (k : ℕ) → pos 0 ≤ℤ d → pos 0 ≤ℤ (d *ℤ pos k)
        not_negative (pos d) k h = omega (arith, ints)
        not_negative (negsuc d) k h = absurd (omega (arith, ints))

pub touches_soon : (a b : Disk) (tick most : ℕ) → TouchFrom a b tick → TouchesSoonAfter a b tick most
touches_soon a b tick most touch =
    let r = difference (place_of a tick) (place_of b tick) in
    let u = relative_of a b in
    let d = contact_distance a b in
    let k = most + 1 in
    let p = touch.moment.part in
    let w = touch.moment.whole in
    let some = touch.within.some in
    let upto = touch.within.most in
    let there : OverlapAt (moment tick p w) a b = subst (λ (t : ℕ). OverlapAt (moment t p w) a b) touch.from touch.overlap in
    let finer : IsOverlap r u d (k * p) (k * w) = overlap_finer r u d p w k (omega arith) (as_vectors a b tick p w there) in
    let least : k * 1 ≤ k * w = mul-le-mul_left k some in
    let inside : k * p ≤ k * w = mul-le-mul_left k upto in
    let none = none_at_first a b tick (k * w) (omega arith) touch.apart in
    elim (search_to r u d (k * w) (k * p) none) [
      | inl before ↦ absurd (before (k * p) (omega arith) finer)
      | inr found ↦ record {
        part = found.part;
        whole = k * w;
        fine = omega arith;
        within = (let below = found.below in omega arith);
        apart = λ n le h. found.apart n le (as_vectors a b tick n (k * w) h);
        overlap = as_disks a b tick (found.part + 1) (k * w) found.overlap;
      }
    ]
