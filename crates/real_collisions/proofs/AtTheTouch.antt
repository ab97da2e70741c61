-- The impulse at each moment up to the touch, and the angular momentum.
use Rattle.std.proofs.Common.{◌≡◌, inl, inr, ℕ, ◌+◌, ◌-◌, ◌*◌, ◌<◌, ◌≤◌, List, subst, sym, ap, ◌∙◌, arith}
use Rattle.std.specs.Prelude.{ℤ, pos, negsuc, nat_abs, ◌+ℤ◌, ◌-ℤ◌, ◌*ℤ◌, ◌≤ℤ◌, ◌<ℤ◌}
use Rattle.std.proofs.lemmas.Int.{ints, by_lt_z, unsigned_abs-mul}
use Rattle.std.proofs.lemmas.Bool.{cases_lt}
use Rattle.std.proofs.lemmas.Option.{same_Some}
use Rattle.std.proofs.Math.Nat.{mul-le-mul_left}
use Rattle.plane_vectors.specs.declared.Vector.{Vector}
use Rattle.plane_vectors.specs.Vectors.{sum, difference, dot}
use Rattle.plane_vectors.proofs.Products.{distributes}
use Rattle.plane_vectors.proofs.Directions.{square_is, length_is}
use Rattle.fixed_motion.specs.declared.rules.Rules.{Rules}
use Rattle.fixed_motion.specs.declared.disk.Disk.{Disk}
use Rattle.fixed_motion.specs.Motion.{place_of, velocity_of, contact_distance}
use Rattle.contact_predictor.proofs.Approaching.{speed_not_negative}
use Rattle.event_rules.specs.declared.change.Change.{Change}
use Rattle.event_rules.specs.Moments.{Moment, IsWithinTick, OverlapAt}
use Rattle.event_rules.proofs.Between.{separation_between}
use Rattle.real_collisions.specs.Elastic.{IsWithinOne, IsWithinHalf}
use Rattle.real_collisions.specs.Laws.{IsReal, IsElasticCollision}
use Rattle.real_collisions.specs.Touching.{TouchFrom}
use Rattle.real_collisions.specs.AtTheTouch.{separation_after, separation_at, relative_of, AreApartAfter, AreExactNear, IsWithinOneAt, IsWithinHalfAt, IsNearUntil, ImpulsesAreNearUntil, IsNearPlace, cross, turning, FlightKeepsTurning, IsElasticTouch, EventsAreElasticAtTheTouch}
use Rattle.real_collisions.proofs.Numbers.{times_times, times_both}
use Rattle.plane_vectors.proofs.Ring.{of, sum_of, less_of, times_of, same_of}
use Rattle.real_collisions.proofs.Near.{lagrange, turned_x, turned_y, cross_later, product_x, product_y, square_parts, factors, way_square, shared, cross_missed, product_bound, shared_bound, shared_half}
use Rattle.real_collisions.proofs.Events.{events_are_elastic, events_are_real}
use Rattle.real_collisions.proofs.Soon.{touches_soon}

-- ---- sizes
size_of_cross : (c b n a : ℤ) → pos 0 ≤ℤ n → pos 0 ≤ℤ a → (c *ℤ c) +ℤ (b *ℤ b) ≡ n *ℤ a →
    nat_abs c * nat_abs c ≤ nat_abs n * nat_abs a
size_of_cross c b (pos n) (pos a) hn ha e = let c2 = square_is c in let b2 = square_is b in omega (arith, ints)
size_of_cross c b (negsuc n) a hn ha e = absurd (omega (arith, ints))
size_of_cross c b (pos n) (negsuc a) hn ha e = absurd (omega (arith, ints))

sizes_of_square : (v w n m a : ℤ) (p : ℕ) → pos 0 ≤ℤ n → pos 0 ≤ℤ m → pos 0 ≤ℤ a →
    (v *ℤ v) +ℤ (w *ℤ w) ≡ (n *ℤ m) *ℤ (a *ℤ pos (p * p)) →
    (nat_abs v * nat_abs v ≤ (nat_abs n * nat_abs m) * ((p * p) * nat_abs a))
    × (nat_abs w * nat_abs w ≤ (nat_abs n * nat_abs m) * ((p * p) * nat_abs a))
sizes_of_square v w (pos n) (pos m) (pos a) p hn hm ha e =
    let v2 = square_is v in
    let w2 = square_is w in
    (omega (arith, ints), omega (arith, ints))
sizes_of_square v w (negsuc n) m a p hn hm ha e = absurd (omega (arith, ints))
sizes_of_square v w (pos n) (negsuc m) a p hn hm ha e = absurd (omega (arith, ints))
sizes_of_square v w (pos n) (pos m) (negsuc a) p hn hm ha e = absurd (omega (arith, ints))

far_of : (m l : ℤ) (k : ℕ) → pos 0 ≤ℤ m → ¬ (m <ℤ (l *ℤ l)) → nat_abs l ≡ k → k * k ≤ nat_abs m
far_of m l k hm apart e = rw (← e) (by_lt_z m (l *ℤ l) (λ lt. absurd (apart lt)) (size m hm))
  where
    size : (m : ℤ) → pos 0 ≤ℤ m → (l *ℤ l) ≤ℤ m → nat_abs l * nat_abs l ≤ nat_abs m
    size (pos m) hm le = let l2 = square_is l in omega (arith, ints)
    size (negsuc m) hm le = absurd (omega (arith, ints))

size_of_less : (a b : ℤ) → nat_abs (a -ℤ b) ≤ nat_abs a + nat_abs b
size_of_less a b = grind (arith, ints)

size_of_shared : (n e m d g : ℤ) → n *ℤ e ≡ (m *ℤ d) -ℤ g → nat_abs n * nat_abs e ≤ nat_abs m * nat_abs d + nat_abs g
size_of_shared n e m d g h =
    rw (← unsigned_abs-mul n e, ← unsigned_abs-mul m d, h) (size_of_less (m *ℤ d) g)

-- ---- two exact impulses
way_of : (x y : ℤ) → (x +ℤ y) -ℤ x ≡ y
way_of x y = omega (arith, ints)

exact_near : (r u : Vector) (distance : ℤ) (part whole : ℕ) → part ≤ whole → AreApartAfter r u distance part whole →
    AreExactNear r (separation_after r u part whole) u distance
exact_near r u distance part whole le apart =
    let q = separation_after r u part whole in
    let n = dot r r in
    let m = dot q q in
    let b = dot r u in
    let k = dot q u in
    let a = dot u u in
    let c = cross r u in
    let w = pos whole in
    let p = pos part in
    let later : cross q u ≡ c *ℤ w = cross_later r.x r.y u.x u.y w p in
    let first = (m *ℤ r.y) -ℤ ((n *ℤ w) *ℤ q.y) in
    let second = ((n *ℤ w) *ℤ q.x) -ℤ (m *ℤ r.x) in
    let ex : ((m *ℤ b) *ℤ r.x) -ℤ ((n *ℤ k) *ℤ q.x) ≡ c *ℤ first =
    (λ i. times_times m b r.x i -ℤ times_times n k q.x i)
    ∙ (λ i. (m *ℤ turned_x r.x r.y u.x u.y i) -ℤ (n *ℤ turned_x q.x q.y u.x u.y i))
    ∙ ap (λ (z : ℤ). (m *ℤ ((n *ℤ u.x) +ℤ (r.y *ℤ c))) -ℤ (n *ℤ ((m *ℤ u.x) +ℤ (q.y *ℤ z)))) later
    ∙ product_x m n u.x r.y c q.y w in
    let ey : ((m *ℤ b) *ℤ r.y) -ℤ ((n *ℤ k) *ℤ q.y) ≡ c *ℤ second =
    (λ i. times_times m b r.y i -ℤ times_times n k q.y i)
    ∙ (λ i. (m *ℤ turned_y r.x r.y u.x u.y i) -ℤ (n *ℤ turned_y q.x q.y u.x u.y i))
    ∙ ap (λ (z : ℤ). (m *ℤ ((n *ℤ u.y) -ℤ (r.x *ℤ c))) -ℤ (n *ℤ ((m *ℤ u.y) -ℤ (q.x *ℤ z)))) later
    ∙ product_y m n u.y r.x c q.x w in
    let ways : ((q.x -ℤ (r.x *ℤ w)) *ℤ (q.x -ℤ (r.x *ℤ w))) +ℤ ((q.y -ℤ (r.y *ℤ w)) *ℤ (q.y -ℤ (r.y *ℤ w))) ≡ a *ℤ (p *ℤ p) =
    (λ i. (way_of (r.x *ℤ w) (u.x *ℤ p) i *ℤ way_of (r.x *ℤ w) (u.x *ℤ p) i) +ℤ (way_of (r.y *ℤ w) (u.y *ℤ p) i *ℤ way_of (r.y *ℤ w) (u.y *ℤ p) i))
    ∙ (λ i. times_both u.x p u.x p i +ℤ times_both u.y p u.y p i)
    ∙ sym (distributes (u.x *ℤ u.x) (u.y *ℤ u.y) (p *ℤ p)) in
    let square : (first *ℤ first) +ℤ (second *ℤ second) ≡ (n *ℤ m) *ℤ (a *ℤ (p *ℤ p)) =
    square_parts m (n *ℤ w) r.x r.y q.x q.y ∙ factors m n w (dot q r)
    ∙ ap (λ (z : ℤ). (n *ℤ m) *ℤ z) (way_square r.x r.y q.x q.y w ∙ ways) in
    let hn = speed_not_negative r in
    let hm = speed_not_negative q in
    let ha = speed_not_negative u in
    let hc = size_of_cross c b n a hn ha (lagrange r.x r.y u.x u.y) in
    let hv = sizes_of_square first second n m a part hn hm ha square in
    let far = far_of m (distance *ℤ w) (nat_abs distance * whole) hm apart (unsigned_abs-mul distance w) in (
      rw (ex, unsigned_abs-mul c first) (product_bound (nat_abs distance) whole part (nat_abs a) (nat_abs n) (nat_abs m) (nat_abs c) (nat_abs first) hc hv.0 le far),
      rw (ey, unsigned_abs-mul c second) (product_bound (nat_abs distance) whole part (nat_abs a) (nat_abs n) (nat_abs m) (nat_abs c) (nat_abs second) hc hv.1 le far),
    )

-- ---- a rounded one
pub near_until : ImpulsesAreNearUntil
near_until r u distance part whole le apart =
    let q = separation_after r u part whole in
    let n = dot r r in
    let m = dot q q in
    let b = dot r u in
    let k = dot q u in
    let near = exact_near r u distance part whole le apart in
    let sizes_x = λ (j : Vector). size_of_shared n _ m _ _ (shared m n j.x b r.x k q.x) in
    let sizes_y = λ (j : Vector). size_of_shared n _ m _ _ (shared m n j.y b r.y k q.y) in
    record {
      exact = near;
      one = λ j within. (
        shared_bound (nat_abs distance) _ (nat_abs n) (nat_abs m) _ _ _ (some _ _ within.0) (sizes_x j) (at_most _ _ within.0) near.0,
        shared_bound (nat_abs distance) _ (nat_abs n) (nat_abs m) _ _ _ (some _ _ within.0) (sizes_y j) (at_most _ _ within.1) near.1,
      );
      half = λ j positive within. (
        shared_half (nat_abs distance) _ (nat_abs n) (nat_abs m) _ _ _ positive (sizes_x j) within.0 near.0,
        shared_half (nat_abs distance) _ (nat_abs n) (nat_abs m) _ _ _ positive (sizes_y j) within.1 near.1,
      );
    }
  where
    some : (d n : ℕ) → d < n → 0 < n
    some d n lt = omega arith

    at_most : (d n : ℕ) → d < n → d ≤ n
    at_most d n lt = omega arith

-- ---- angular momentum
turn_of : (x y z t ox oy a b c d s w : ℤ) →
    ((((x -ℤ ox) *ℤ (b +ℤ w)) -ℤ ((y -ℤ oy) *ℤ (a +ℤ s))) +ℤ (((z -ℤ ox) *ℤ (d -ℤ w)) -ℤ ((t -ℤ oy) *ℤ (c -ℤ s))))
    -ℤ ((((x -ℤ ox) *ℤ b) -ℤ ((y -ℤ oy) *ℤ a)) +ℤ (((z -ℤ ox) *ℤ d) -ℤ ((t -ℤ oy) *ℤ c)))
    ≡ ((x -ℤ z) *ℤ w) -ℤ ((y -ℤ t) *ℤ s)
turn_of x y z t ox oy a b c d s w =
    rw (of x, of y, of z, of t, of ox, of oy, of a, of b, of c, of d, of s, of w)
    (simp (times_of, sum_of, less_of) (same_of _ _ _ _ (omega arith)))

turn_bound : (n x y f g s : ℕ) → n ≡ x * x + y * y → n * s ≤ x * g + y * f → f < n → g < n → s < x + y
turn_bound n x y f g s e h hf hg = elim (cases_lt s (x + y)) [
  | inl lt ↦ lt
  | inr le ↦ absurd (
      let whole : n * (x + y) ≤ n * s = mul-le-mul_left n le in
      let first : x * (g + 1) ≤ x * n = mul-le-mul_left x (omega arith) in
      let second : y * (f + 1) ≤ y * n = mul-le-mul_left y (omega arith) in
      let none : x + y ≤ 0 = omega arith in
      let no_x : x * x ≤ x * 0 = mul-le-mul_left x (omega arith) in
      let no_y : y * y ≤ y * 0 = mul-le-mul_left y (omega arith) in
      omega arith)
]

size_of_turn : (n x y f g z : ℤ) → n *ℤ z ≡ (x *ℤ g) -ℤ (y *ℤ f) → nat_abs n * nat_abs z ≤ nat_abs x * nat_abs g + nat_abs y * nat_abs f
size_of_turn n x y f g z h =
    rw (← unsigned_abs-mul n z, ← unsigned_abs-mul x g, ← unsigned_abs-mul y f, h) (size_of_less (x *ℤ g) (y *ℤ f))

-- r×J, for an impulse near the exact one
turns_little : (r u j : Vector) → IsWithinOne r u j → nat_abs (cross r j) < nat_abs r.x + nat_abs r.y
turns_little r u j within =
    let n = dot r r in
    let b = dot r u in
    let missed = size_of_turn n r.x r.y _ _ (cross r j) (cross_missed n b r.x r.y j.x j.y) in
    turn_bound (nat_abs n) (nat_abs r.x) (nat_abs r.y) _ _ _ (ap nat_abs (length_is r)) missed within.0 within.1

flight_of : (x y ox oy a b t : ℤ) → (((x +ℤ (a *ℤ t)) -ℤ ox) *ℤ b) -ℤ (((y +ℤ (b *ℤ t)) -ℤ oy) *ℤ a) ≡ ((x -ℤ ox) *ℤ b) -ℤ ((y -ℤ oy) *ℤ a)
flight_of x y ox oy a b t =
    rw (of x, of y, of ox, of oy, of a, of b, of t) (simp (times_of, sum_of, less_of) (same_of _ _ _ _ (omega arith)))

pub flight_keeps_turning : FlightKeepsTurning
flight_keeps_turning about tick a = flight_of a.x a.y about.x about.y a.vx a.vy (pos (tick - a.base))

-- ---- events
way_within : (x : ℤ) (v : ℤ) (p q : ℕ) → p ≤ q → nat_abs (((x *ℤ pos q) +ℤ (v *ℤ pos p)) -ℤ (x *ℤ pos q)) ≤ q * nat_abs v
way_within x v p q le =
    rw (way_of (x *ℤ pos q) (v *ℤ pos p), unsigned_abs-mul v (pos p)) (let more : nat_abs v * p ≤ nat_abs v * q = mul-le-mul_left (nat_abs v) le in omega arith)

near_place : (a b : Disk) (m : Moment) → IsWithinTick m → IsNearPlace a b m
near_place a b m within =
    let r = difference (place_of a m.tick) (place_of b m.tick) in
    let u = relative_of a b in
    let e = separation_between a b m in
    record {
      x = subst (λ (q : Vector). nat_abs (q.x -ℤ (r.x *ℤ pos m.whole)) ≤ m.whole * nat_abs u.x) (sym e) (way_within r.x u.x m.part m.whole within.most);
      y = subst (λ (q : Vector). nat_abs (q.y -ℤ (r.y *ℤ pos m.whole)) ≤ m.whole * nat_abs u.y) (sym e) (way_within r.y u.y m.part m.whole within.most);
    }

until_at : (a b : Disk) (m : Moment) → IsWithinTick m → ¬ OverlapAt m a b →
    IsNearUntil (difference (place_of a m.tick) (place_of b m.tick)) (relative_of a b) (contact_distance a b) m.part m.whole
until_at a b m within apart =
    near_until _ _ _ m.part m.whole within.most
    (subst (λ (q : Vector). ¬ (dot q q <ℤ ((contact_distance a b *ℤ pos m.whole) *ℤ (contact_distance a b *ℤ pos m.whole))))
    (separation_between a b m) apart)

turns : (disks : List Disk) (c : Change) (e : IsElasticCollision disks c) (about : Vector) →
    let tick = c.stamp.tick in
    let r = difference (place_of e.first tick) (place_of e.second tick) in
    nat_abs ((turning about tick c.first +ℤ turning about tick e.later) -ℤ (turning about tick e.first +ℤ turning about tick e.second))
    < nat_abs r.x + nat_abs r.y
turns disks c e about =
    let tick = c.stamp.tick in
    let p = place_of e.first tick in
    let q = place_of e.second tick in
    let v = velocity_of e.first in
    let w = velocity_of e.second in
    let j = e.impulse in
    let first : turning about tick c.first ≡ cross (difference p about) (sum v j) =
    λ i. cross (difference (e.first_goes_on.place i) about) (e.first_goes_on.velocity_after i) in
    let second : turning about tick e.later ≡ cross (difference q about) (difference w j) =
    λ i. cross (difference (e.second_goes_on.place i) about) (e.second_goes_on.velocity_after i) in
    let same = (λ i. (first i +ℤ second i) -ℤ (turning about tick e.first +ℤ turning about tick e.second))
    ∙ turn_of p.x p.y q.x q.y about.x about.y v.x v.y w.x w.y j.x j.y in
    subst (λ (z : ℤ). nat_abs z < nat_abs (p.x -ℤ q.x) + nat_abs (p.y -ℤ q.y)) (sym same)
    (turns_little (difference p q) (relative_of e.first e.second) j e.elastic.one)

touch_of : (disks : List Disk) (c : Change) (e : IsElasticCollision disks c) → TouchFrom e.first e.second c.stamp.tick → IsElasticTouch disks c
touch_of disks c e touch = record {
  collision = e;
  touch = λ most. touches_soon e.first e.second c.stamp.tick most touch;
  place = λ m within. near_place e.first e.second m within;
  impulse = λ m within at apart.
      at_moment m
      ((until_at e.first e.second m within apart).one e.impulse
      (subst (λ (t : ℕ). IsWithinOne (difference (place_of e.first t) (place_of e.second t)) (relative_of e.first e.second) e.impulse) (sym at) e.elastic.one));
  half = λ m within at apart near.
      half_at_moment m
      ((until_at e.first e.second m within apart).half e.impulse
      (subst (λ (t : ℕ). 0 < nat_abs (dot (difference (place_of e.first t) (place_of e.second t)) (difference (place_of e.first t) (place_of e.second t))))
      (sym at) (some _ _ e.elastic.one.0))
      (subst (λ (t : ℕ). IsWithinHalf (difference (place_of e.first t) (place_of e.second t)) (relative_of e.first e.second) e.impulse) (sym at) near));
  turns = turns disks c e;
}
  where
    some : (d n : ℕ) → d < n → 0 < n
    some d n lt = omega arith

    at_moment : (m : Moment) → IsWithinOneAt (separation_after (difference (place_of e.first m.tick) (place_of e.second m.tick)) (relative_of e.first e.second) m.part m.whole)
        (relative_of e.first e.second) e.impulse (contact_distance e.first e.second) →
        IsWithinOneAt (separation_at m e.first e.second) (relative_of e.first e.second) e.impulse (contact_distance e.first e.second)
    at_moment m h = subst (λ (q : Vector). IsWithinOneAt q (relative_of e.first e.second) e.impulse (contact_distance e.first e.second))
        (sym (separation_between e.first e.second m)) h

    half_at_moment : (m : Moment) → IsWithinHalfAt (separation_after (difference (place_of e.first m.tick) (place_of e.second m.tick)) (relative_of e.first e.second) m.part m.whole)
        (relative_of e.first e.second) e.impulse (contact_distance e.first e.second) →
        IsWithinHalfAt (separation_at m e.first e.second) (relative_of e.first e.second) e.impulse (contact_distance e.first e.second)
    half_at_moment m h = subst (λ (q : Vector). IsWithinHalfAt q (relative_of e.first e.second) e.impulse (contact_distance e.first e.second))
        (sym (separation_between e.first e.second m)) h

-- the two disks of a collision are those that touch from its tick on
touch_from_real : (rules : Rules) (disks : List Disk) (c : Change) (e : IsElasticCollision disks c) → IsReal rules disks c.stamp →
    TouchFrom e.first e.second c.stamp.tick
touch_from_real rules disks c e (inl wall) = absurd (let one = wall.kind in let two = e.kind in cc)
touch_from_real rules disks c e (inr pair) =
    let first : pair.first ≡ e.first = same_Some pair.first e.first (sym pair.first_at ∙ e.first_at) in
    let second : pair.second ≡ e.second = same_Some pair.second e.second (sym pair.second_at ∙ e.second_at) in
    subst (λ (a : Disk). TouchFrom a e.second c.stamp.tick) first (subst (λ (b : Disk). TouchFrom pair.first b c.stamp.tick) second pair.touch)

pub events_are_elastic_at_the_touch : EventsAreElasticAtTheTouch
events_are_elastic_at_the_touch rules disks before after c outcome run =
    elim (events_are_elastic rules disks before after c outcome run) [
      | inl wall ↦ inl wall
      | inr pair ↦ inr (touch_of _ c pair (touch_from_real rules _ c pair (events_are_real rules disks before after c outcome run)))
    ]
