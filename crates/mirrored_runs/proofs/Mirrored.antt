-- Disks mirrored: their places, contacts and sides.
use Rattle.std.proofs.Common.{◌≡◌, inl, inr, ℕ, ◌+◌, ◌-◌, ◌*◌, sym, ap, ◌∙◌, subst, refl, arith}
use Rattle.std.specs.Prelude.{ℤ, pos, neg_ℤ, nat_abs, ◌+ℤ◌, ◌-ℤ◌, ◌*ℤ◌, ◌≤ℤ◌, ◌<ℤ◌}
use Rattle.std.proofs.lemmas.Int.{ints}
use borrow.Author.Differences.{up, down, product_is, neg_is, same_in}
use Rattle.plane_vectors.specs.declared.Vector.{Vector}
use Rattle.plane_vectors.specs.Vectors.{vector, sum, difference, dot}
use Rattle.fixed_motion.specs.declared.rules.Rules.{Rules}
use Rattle.fixed_motion.specs.declared.disk.Disk.{Disk}
use Rattle.fixed_motion.specs.Motion.{IsInside, IsSlow, place_of, velocity_of, radius_of, contact_distance}
use Rattle.contact_predictor.specs.Contact.{IsContact}
use Rattle.impulse_rounding.specs.Impulse.{signed, impulse_of}
use Rattle.event_rules.specs.Events.{IsContactTick, IsWallTick, IsPast}
use Rattle.event_rules.proofs.Within.{product_sides}
use Rattle.alike_runs.proofs.Turned.{neg_twice, neg_product, neg_sum, neg_size, component_reversed, of_parts, IsTurn, contact_turned, impulse_turned}
use Rattle.mirrored_runs.specs.Mirror.{Axis, LeftRight, BottomTop, mirrored, mirrored_place, mirrored_vector, mirrored_side}

-- ---- numbers
neg_times : (a b : ℤ) → neg_ℤ a *ℤ b ≡ neg_ℤ (a *ℤ b)
neg_times a b =
    let turn = neg_is a in
    let first = product_sides (neg_ℤ a) b (down a) (up a) (up b) (down b) turn.0 turn.1 refl refl in
    let second = product_is a b in
    let third = neg_is (a *ℤ b) in
    same_in (neg_ℤ a *ℤ b) (neg_ℤ (a *ℤ b)) (omega arith)

neg_difference : (x y : ℤ) → (neg_ℤ x -ℤ neg_ℤ y) ≡ neg_ℤ (x -ℤ y)
neg_difference x y = omega (arith, ints)

-- a coordinate as far from the opposite side, in a box of width or height w
across_twice : (w x : ℤ) → w -ℤ (w -ℤ x) ≡ x
across_twice w x = omega (arith, ints)

across_after : (w x v : ℤ) (n : ℕ) → (w -ℤ x) +ℤ (neg_ℤ v *ℤ pos n) ≡ w -ℤ (x +ℤ (v *ℤ pos n))
across_after w x v n = let turn = neg_times v (pos n) in omega (arith, ints)

across_apart : (w x y : ℤ) → (w -ℤ x) -ℤ (w -ℤ y) ≡ neg_ℤ (x -ℤ y)
across_apart w x y = omega (arith, ints)

across_least : (w r x : ℤ) → x ≤ℤ (w -ℤ r) → r ≤ℤ (w -ℤ x)
across_least w r x h = omega (arith, ints)

across_most : (w r x : ℤ) → r ≤ℤ x → (w -ℤ x) ≤ℤ (w -ℤ r)
across_most w r x h = omega (arith, ints)

across_over : (w r x : ℤ) → x <ℤ r → (w -ℤ r) <ℤ (w -ℤ x)
across_over w r x h = omega (arith, ints)

across_under : (w r x : ℤ) → (w -ℤ r) <ℤ x → (w -ℤ x) <ℤ r
across_under w r x h = omega (arith, ints)

-- ---- vectors
pub dot_mirrored : (axis : Axis) (a b : Vector) → dot (mirrored_vector axis a) (mirrored_vector axis b) ≡ dot a b
dot_mirrored LeftRight a b = ap (λ (n : ℤ). n +ℤ (a.y *ℤ b.y)) (neg_product a.x b.x)
dot_mirrored BottomTop a b = ap (λ (n : ℤ). (a.x *ℤ b.x) +ℤ n) (neg_product a.y b.y)

pub sum_mirrored : (axis : Axis) (a b : Vector) → sum (mirrored_vector axis a) (mirrored_vector axis b) ≡ mirrored_vector axis (sum a b)
sum_mirrored LeftRight a b = let x = neg_sum a.x b.x in λ i. vector (x i) (a.y +ℤ b.y)
sum_mirrored BottomTop a b = let y = neg_sum a.y b.y in λ i. vector (a.x +ℤ b.x) (y i)

pub difference_mirrored : (axis : Axis) (a b : Vector) →
    difference (mirrored_vector axis a) (mirrored_vector axis b) ≡ mirrored_vector axis (difference a b)
difference_mirrored LeftRight a b = let x = neg_difference a.x b.x in λ i. vector (x i) (a.y -ℤ b.y)
difference_mirrored BottomTop a b = let y = neg_difference a.y b.y in λ i. vector (a.x -ℤ b.x) (y i)

pub slow_mirrored : (axis : Axis) (rules : Rules) (v : Vector) → IsSlow rules v → IsSlow rules (mirrored_vector axis v)
slow_mirrored LeftRight rules v h = let size = neg_size v.x in let x = h.x in record { x = omega arith; y = h.y }
slow_mirrored BottomTop rules v h = let size = neg_size v.y in let y = h.y in record { x = h.x; y = omega arith }

-- ---- places
pub place_mirrored : (axis : Axis) (rules : Rules) (a : Disk) (tick : ℕ) →
    place_of (mirrored axis rules a) tick ≡ mirrored_place axis rules (place_of a tick)
place_mirrored LeftRight rules a tick =
    let x = across_after rules.width a.x a.vx (tick - a.base) in
    λ i. vector (x i) (place_of a tick).y
place_mirrored BottomTop rules a tick =
    let y = across_after rules.height a.y a.vy (tick - a.base) in
    λ i. vector (place_of a tick).x (y i)

pub places_mirrored : (axis : Axis) (rules : Rules) (p q : Vector) →
    difference (mirrored_place axis rules p) (mirrored_place axis rules q) ≡ mirrored_vector axis (difference p q)
places_mirrored LeftRight rules p q = let x = across_apart rules.width p.x q.x in λ i. vector (x i) (p.y -ℤ q.y)
places_mirrored BottomTop rules p q = let y = across_apart rules.height p.y q.y in λ i. vector (p.x -ℤ q.x) (y i)

pub mirrored_twice : (axis : Axis) (rules : Rules) (a : Disk) → mirrored axis rules (mirrored axis rules a) ≡ a
mirrored_twice LeftRight rules a =
    let x = across_twice rules.width a.x in
    let vx = neg_twice a.vx in
    λ i. record { x = x i; y = a.y; vx = vx i; vy = a.vy; size = a.size; base = a.base; mark = a.mark }
mirrored_twice BottomTop rules a =
    let y = across_twice rules.height a.y in
    let vy = neg_twice a.vy in
    λ i. record { x = a.x; y = y i; vx = a.vx; vy = vy i; size = a.size; base = a.base; mark = a.mark }

-- ---- sides
pub inside_mirrored : (axis : Axis) (rules : Rules) (a : Disk) (p : Vector) → IsInside rules a p →
    IsInside rules (mirrored axis rules a) (mirrored_place axis rules p)
inside_mirrored LeftRight rules a p h =
    record { left = across_least _ _ _ h.right; right = across_most _ _ _ h.left; bottom = h.bottom; top = h.top }
inside_mirrored BottomTop rules a p h =
    record { left = h.left; right = h.right; bottom = across_least _ _ _ h.top; top = across_most _ _ _ h.bottom }

pub inside_at_mirrored : (axis : Axis) (rules : Rules) (a : Disk) (tick : ℕ) → IsInside rules a (place_of a tick) →
    IsInside rules (mirrored axis rules a) (place_of (mirrored axis rules a) tick)
inside_at_mirrored axis rules a tick h =
    subst (IsInside rules (mirrored axis rules a)) (sym (place_mirrored axis rules a tick)) (inside_mirrored axis rules a (place_of a tick) h)

past_mirrored : (axis : Axis) (rules : Rules) (a : Disk) (side : ℕ) (p : Vector) → IsPast rules a side p →
    IsPast rules (mirrored axis rules a) (mirrored_side axis side) (mirrored_place axis rules p)
past_mirrored LeftRight rules a side p (inl left) = inr (inl (ap (mirrored_side LeftRight) left.0, across_over _ _ _ left.1))
past_mirrored LeftRight rules a side p (inr (inl right)) = inl (ap (mirrored_side LeftRight) right.0, across_under _ _ _ right.1)
past_mirrored LeftRight rules a side p (inr (inr (inl bottom))) = inr (inr (inl (ap (mirrored_side LeftRight) bottom.0, bottom.1)))
past_mirrored LeftRight rules a side p (inr (inr (inr top))) = inr (inr (inr (ap (mirrored_side LeftRight) top.0, top.1)))
past_mirrored BottomTop rules a side p (inl left) = inl (ap (mirrored_side BottomTop) left.0, left.1)
past_mirrored BottomTop rules a side p (inr (inl right)) = inr (inl (ap (mirrored_side BottomTop) right.0, right.1))
past_mirrored BottomTop rules a side p (inr (inr (inl bottom))) =
    inr (inr (inr (ap (mirrored_side BottomTop) bottom.0, across_over _ _ _ bottom.1)))
past_mirrored BottomTop rules a side p (inr (inr (inr top))) =
    inr (inr (inl (ap (mirrored_side BottomTop) top.0, across_under _ _ _ top.1)))

pub wall_mirrored : (axis : Axis) (rules : Rules) (a : Disk) (side tick : ℕ) → IsWallTick rules a side tick →
    IsWallTick rules (mirrored axis rules a) (mirrored_side axis side) tick
wall_mirrored axis rules a side tick h = record {
  base = h.base;
  inside = inside_at_mirrored axis rules a tick h.inside;
  past = subst (IsPast rules (mirrored axis rules a) (mirrored_side axis side)) (sym (place_mirrored axis rules a (tick + 1)))
      (past_mirrored axis rules a side (place_of a (tick + 1)) h.past);
}

-- the side that a disk is past, by the side's number
record IsPastBy (rules : Rules) (a : Disk) (side : ℕ) (p : Vector) : Type 0 where
  pub left : side ≡ 0 → p.x <ℤ radius_of a
  pub right : side ≡ 1 → (rules.width -ℤ radius_of a) <ℤ p.x
  pub bottom : side ≡ 2 → p.y <ℤ radius_of a
  pub top : side ≡ 3 → (rules.height -ℤ radius_of a) <ℤ p.y

past_by : (rules : Rules) (a : Disk) (side : ℕ) (p : Vector) → IsPast rules a side p → IsPastBy rules a side p
past_by rules a side p (inl left) =
    record { left = λ e. left.1; right = λ e. absurd (omega arith); bottom = λ e. absurd (omega arith); top = λ e. absurd (omega arith) }
past_by rules a side p (inr (inl right)) =
    record { left = λ e. absurd (omega arith); right = λ e. right.1; bottom = λ e. absurd (omega arith); top = λ e. absurd (omega arith) }
past_by rules a side p (inr (inr (inl bottom))) =
    record { left = λ e. absurd (omega arith); right = λ e. absurd (omega arith); bottom = λ e. bottom.1; top = λ e. absurd (omega arith) }
past_by rules a side p (inr (inr (inr top))) =
    record { left = λ e. absurd (omega arith); right = λ e. absurd (omega arith); bottom = λ e. absurd (omega arith); top = λ e. top.1 }

-- two sides that change places, the lower number first
abbrev pub AreAcross : Axis → ℕ → ℕ → Type 0
AreAcross LeftRight low high = (low ≡ 0) × (high ≡ 1)
AreAcross BottomTop low high = (low ≡ 2) × (high ≡ 3)

-- no disk is past both, since it was inside
pub not_past_both : (axis : Axis) (rules : Rules) (a : Disk) (low high : ℕ) (p q : Vector) → IsInside rules a p → IsPast rules a low q →
    IsPast rules a high q → AreAcross axis low high → ⊥
not_past_both axis rules a low high p q inside h k across = by_axis axis (past_by rules a low q h) (past_by rules a high q k) across
  where
    neither : (w r x y : ℤ) → r ≤ℤ x → x ≤ℤ (w -ℤ r) → y <ℤ r → (w -ℤ r) <ℤ y → ⊥
    neither w r x y h k l m = omega (arith, ints)

    by_axis : (axis : Axis) → IsPastBy rules a low q → IsPastBy rules a high q → AreAcross axis low high → ⊥
    by_axis LeftRight h k across = neither _ _ _ _ inside.left inside.right (h.left across.0) (k.right across.1)
    by_axis BottomTop h k across = neither _ _ _ _ inside.bottom inside.top (h.bottom across.0) (k.top across.1)

is_turn : (axis : Axis) → IsTurn (mirrored_vector axis)
is_turn axis = record { dots = dot_mirrored axis; sums = sum_mirrored axis; parts = parts axis }
  where
    parts : (axis : Axis) (round : ℕ → ℕ → ℕ) → ((d : ℕ) → round 0 d ≡ 0) → (r : Vector) (b n : ℕ) →
        of_parts round (mirrored_vector axis r) b n ≡ mirrored_vector axis (of_parts round r b n)
    parts LeftRight round none r b n = let x = component_reversed round b n r.x none in λ i. vector (x i) (signed r.y (round (b * nat_abs r.y) n))
    parts BottomTop round none r b n = let y = component_reversed round b n r.y none in λ i. vector (signed r.x (round (b * nat_abs r.x) n)) (y i)

-- ---- contacts
pub separation_mirrored : (axis : Axis) (rules : Rules) (a b : Disk) (tick : ℕ) →
    difference (place_of (mirrored axis rules a) tick) (place_of (mirrored axis rules b) tick)
    ≡ mirrored_vector axis (difference (place_of a tick) (place_of b tick))
separation_mirrored axis rules a b tick =
    let p = place_mirrored axis rules a tick in
    let q = place_mirrored axis rules b tick in
    (λ i. difference (p i) (q i)) ∙ places_mirrored axis rules (place_of a tick) (place_of b tick)

pub contact_tick_mirrored : (axis : Axis) (rules : Rules) (a b : Disk) (tick : ℕ) → IsContactTick rules a b tick →
    IsContactTick rules (mirrored axis rules a) (mirrored axis rules b) tick
contact_tick_mirrored axis rules a b tick h =
    let r = separation_mirrored axis rules a b tick in
    let u = difference_mirrored axis (velocity_of a) (velocity_of b) in
    record {
      first_base = h.first_base;
      second_base = h.second_base;
      first_inside = inside_at_mirrored axis rules a tick h.first_inside;
      second_inside = inside_at_mirrored axis rules b tick h.second_inside;
      contact = in_place _ _ _ _ (contact_distance a b) r u (contact_turned (mirrored_vector axis) (is_turn axis) _ _ (contact_distance a b) h.contact);
    }
  where
    in_place : (r u s v : Vector) (distance : ℤ) → s ≡ r → v ≡ u → IsContact r u distance → IsContact s v distance
    in_place r u s v distance p q h = rw (p, q) h

-- ---- impulses
pub impulse_mirrored : (axis : Axis) (r u : Vector) →
    impulse_of (mirrored_vector axis r) (mirrored_vector axis u) ≡ mirrored_vector axis (impulse_of r u)
impulse_mirrored axis r u = impulse_turned (mirrored_vector axis) (is_turn axis) r u
