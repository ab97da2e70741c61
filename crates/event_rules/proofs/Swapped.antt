-- Two disks meet at the same ticks in either order: the separation and the relative velocity change their signs, their
-- products don't.
use Rattle.std.proofs.Common.{◌≡◌, ℕ, ◌<◌, max, min, refl, sym, subst, ap, ◌∙◌, arith}
use Rattle.std.specs.Prelude.{ℤ, pos, ◌+ℤ◌, ◌-ℤ◌, ◌*ℤ◌, ◌≤ℤ◌, ◌<ℤ◌}
use Rattle.std.proofs.lemmas.Int.{ints}
use Rattle.std.proofs.Math.IntN.{+ℤ_comm}
use Rattle.std.proofs.Math.Nat.{max_comm}
use Rattle.plane_vectors.proofs.Products.{distributes}
use Rattle.plane_vectors.specs.declared.Vector.{Vector}
use Rattle.plane_vectors.specs.Vectors.{sum, difference, dot}
use Rattle.fixed_motion.specs.declared.rules.Rules.{Rules}
use Rattle.fixed_motion.specs.declared.disk.Disk.{Disk}
use Rattle.fixed_motion.specs.Motion.{radius_of, contact_distance, velocity_of, place_of, mark_at}
use Rattle.contact_predictor.specs.Contact.{IsApproaching, IsCollisionCourse, IsContact}
use Rattle.event_stamps.specs.declared.Stamp.{Stamp}
use Rattle.event_stamps.specs.declared.Kind.TheVariants.{Pair}
use Rattle.event_stamps.specs.Least.{IsOnly}
use Rattle.event_rules.specs.Events.{NeverHit, IsContactTick, IsPairEvent, IsChance, pair_stamp}
use Rattle.event_rules.specs.Predict.{IsOnlyChance, IsTouch}

-- ---- vectors
-- the vector with the other signs
pub record IsOpposite (a b : Vector) : Type 0 where
  pub x : b.x ≡ pos 0 -ℤ a.x
  pub y : b.y ≡ pos 0 -ℤ a.y

opposite_back : (a b : Vector) → IsOpposite a b → IsOpposite b a
opposite_back a b h = let x = h.x in let y = h.y in record { x = omega (arith, ints); y = omega (arith, ints) }

opposite_difference : (a b : Vector) → IsOpposite (difference a b) (difference b a)
opposite_difference a b = record { x = omega (arith, ints); y = omega (arith, ints) }

opposite_sum : (a b c d : Vector) → IsOpposite a c → IsOpposite b d → IsOpposite (sum a b) (sum c d)
opposite_sum a b c d h k =
    let hx = h.x in
    let hy = h.y in
    let kx = k.x in
    let ky = k.y in
    record { x = omega (arith, ints); y = omega (arith, ints) }

opposite_product : (x v : ℤ) → (pos 0 -ℤ x) *ℤ (pos 0 -ℤ v) ≡ x *ℤ v
opposite_product x v =
    let first = none (pos 0 -ℤ x) x (pos 0 -ℤ v) (omega (arith, ints)) in
    let second = none (pos 0 -ℤ v) v x (omega (arith, ints)) in
    omega (arith, ints)
  where
    none : (a b c : ℤ) → a +ℤ b ≡ pos 0 → (a *ℤ c) +ℤ (b *ℤ c) ≡ pos 0
    none a b c e = sym (distributes a b c) ∙ (rw e (omega (arith, ints)))

pub opposite_dot : (a b c d : Vector) → IsOpposite a c → IsOpposite b d → dot a b ≡ dot c d
opposite_dot a b c d h k =
    let first = opposite_product a.x b.x in
    let second = opposite_product a.y b.y in
    rw (h.x, h.y, k.x, k.y) (omega (arith, ints))

-- ---- contacts
approaching_opposite : (r u s v : Vector) (d : ℤ) → IsOpposite r s → IsOpposite u v → IsApproaching r u d → IsApproaching s v d
approaching_opposite r u s v d h k now = record {
  apart = subst (λ (n : ℤ). pos 0 ≤ℤ (n -ℤ (d *ℤ d))) (opposite_dot r r s s h h) now.apart;
  approaching = subst (λ (n : ℤ). n <ℤ pos 0) (opposite_dot r u s v h k) now.approaching;
}

crossing_opposite : (r u s v : Vector) (d : ℤ) → IsOpposite r s → IsOpposite u v → IsCollisionCourse r u d → IsCollisionCourse s v d
crossing_opposite r u s v d h k = rw (opposite_dot r r s s h h, opposite_dot u u v v k k, opposite_dot r u s v h k) (λ now. now)

contact_opposite : (r u s v : Vector) (d : ℤ) → IsOpposite r s → IsOpposite u v → IsContact r u d → IsContact s v d
contact_opposite r u s v d h k now = record {
  approaching = approaching_opposite r u s v d h k now.approaching;
  crossing = crossing_opposite r u s v d h k now.crossing;
  last = λ next. now.last (approaching_opposite (sum s v) v (sum r u) u d
      (opposite_sum s v r u (opposite_back r s h) (opposite_back u v k)) (opposite_back u v k) next);
}

contact_tick_swapped : (rules : Rules) (a b : Disk) (tick : ℕ) → IsContactTick rules a b tick → IsContactTick rules b a tick
contact_tick_swapped rules a b tick h = record {
  first_base = h.second_base;
  second_base = h.first_base;
  first_inside = h.second_inside;
  second_inside = h.first_inside;
  contact = subst (λ (d : ℤ). IsContact (difference (place_of b tick) (place_of a tick)) (difference (velocity_of b) (velocity_of a)) d)
      (+ℤ_comm (radius_of a) (radius_of b))
      (contact_opposite (difference (place_of a tick) (place_of b tick)) (difference (velocity_of a) (velocity_of b)) _ _ (contact_distance a b)
      (opposite_difference (place_of a tick) (place_of b tick)) (opposite_difference (velocity_of a) (velocity_of b)) h.contact);
}

-- ---- events
-- disks that have no contact tick hit each other in neither order
pub never_hit : (rules : Rules) (a b : Disk) → ((tick : ℕ) → IsContactTick rules a b tick → ⊥) → NeverHit rules a b
never_hit rules a b never i j s event = never s.tick event.0

pub never_hit_turned : (rules : Rules) (a b : Disk) → ((tick : ℕ) → IsContactTick rules a b tick → ⊥) → NeverHit rules b a
never_hit_turned rules a b never i j s event = never s.tick (contact_tick_swapped rules b a s.tick event.0)

pub no_event_falling : (rules : Rules) (i j : ℕ) (a b : Disk) → ((tick : ℕ) → tick < rules.end → IsContactTick rules a b tick → ⊥) →
    (s : Stamp) → IsPairEvent rules j b i a s → ⊥
no_event_falling rules i j a b never s event = never s.tick event.1 (contact_tick_swapped rules b a s.tick event.0)

touch_swapped : (rules : Rules) (a b : Disk) (tick : ℕ) → IsTouch rules a b tick → IsTouch rules b a tick
touch_swapped rules a b tick touch =
    (contact_tick_swapped rules a b tick touch.0, touch.1, λ t contact. touch.2 t (contact_tick_swapped rules b a t contact))

-- the stamp of two disks at a tick is told by their numbers in either order
rising_stamp : (i j tick : ℕ) (a b : Disk) → i < j → pair_stamp (min i j) a (max i j) b tick ≡ pair_stamp i a j b tick
rising_stamp i j tick a b lt =
    let lower : min i j ≡ i = omega arith in
    let higher : max i j ≡ j = omega arith in
    λ n. pair_stamp (lower n) a (higher n) b tick

falling_stamp : (i j tick : ℕ) (a b : Disk) → j < i → pair_stamp (min i j) a (max i j) b tick ≡ pair_stamp j b i a tick
falling_stamp i j tick a b lt =
    let lower : min i j ≡ j = omega arith in
    let higher : max i j ≡ i = omega arith in
    let round = max_comm (mark_at a tick) (mark_at b tick) in
    λ n. record { tick = tick; round = round n; kind = Pair; first = lower n; second = higher n }

-- the contact of two disks is their one event
only_event : (rules : Rules) (i j tick : ℕ) (a b : Disk) → IsTouch rules a b tick → IsOnly (IsPairEvent rules i a j b) (pair_stamp i a j b tick)
only_event rules i j tick a b touch =
    ((touch.0, touch.1, refl), λ t event. event.2 ∙ ap (pair_stamp i a j b) (touch.2 t.tick event.0))

pub event_rising : (rules : Rules) (i j tick : ℕ) (a b : Disk) → i < j → IsTouch rules a b tick →
    IsOnly (IsPairEvent rules i a j b) (pair_stamp (min i j) a (max i j) b tick)
event_rising rules i j tick a b lt touch =
    subst (IsOnly (IsPairEvent rules i a j b)) (sym (rising_stamp i j tick a b lt)) (only_event rules i j tick a b touch)

pub event_falling : (rules : Rules) (i j tick : ℕ) (a b : Disk) → j < i → IsTouch rules a b tick →
    IsOnly (IsPairEvent rules j b i a) (pair_stamp (min i j) a (max i j) b tick)
event_falling rules i j tick a b lt touch =
    subst (IsOnly (IsPairEvent rules j b i a)) (sym (falling_stamp i j tick a b lt))
    (only_event rules j i tick b a (touch_swapped rules a b tick touch))

-- the only tick at which they can is that of their event, if there is one
pub chance_stamp : (rules : Rules) (i j tick : ℕ) (a b : Disk) → IsOnlyChance rules a b tick →
    IsChance rules i a j b (pair_stamp (min i j) a (max i j) b tick)
chance_stamp rules i j tick a b chance = record {
  kind = refl;
  first = refl;
  second = refl;
  round = refl;
  rising = λ lt t event. event.2 ∙ ap (pair_stamp i a j b) (chance.only t.tick event.0) ∙ sym (rising_stamp i j tick a b lt);
  falling = λ lt t event.
      event.2 ∙ ap (pair_stamp j b i a) (chance.only t.tick (contact_tick_swapped rules b a t.tick event.0))
      ∙ sym (falling_stamp i j tick a b lt);
}
