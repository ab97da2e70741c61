-- The impulse from the bound at tick 3, where the two touch, and from the turning about the middle between them.
use Rattle.std.proofs.Common.{zero, suc, ◌-◌, ◌≡◌, inl, inr, ◌⊎◌, ℕ, ◌+◌, ◌*◌, ◌<◌, ◌≤◌, [], sym, subst, ap, ◌∙◌, arith}
use Rattle.std.specs.Prelude.{ℤ, pos, negsuc, neg_ℤ, ◌+ℤ◌, ◌-ℤ◌, nat_abs, ◌*ℤ◌, ◌≤ℤ◌, ◌<ℤ◌}
use Rattle.std.proofs.lemmas.Int.{ints}
use Rattle.std.proofs.Math.Nat.{mul-le-mul}
use Rattle.plane_vectors.specs.declared.Vector.{Vector}
use Rattle.plane_vectors.specs.Vectors.{vector, sum, difference}
use Rattle.fixed_motion.specs.declared.disk.Disk.{Disk}
use Rattle.fixed_motion.specs.Motion.{half_of, place_of, velocity_of, contact_distance}
use Rattle.event_stamps.specs.declared.Stamp.{Stamp}
use Rattle.event_rules.specs.declared.change.Change.{Change}
use Rattle.event_rules.specs.Moments.{Moment, OverlapAt}
use Rattle.real_collisions.specs.Laws.{IsElasticBounce, IsElasticCollision}
use Rattle.real_collisions.specs.AtTheTouch.{IsWithinOneAt, IsElasticTouch, TouchesSoonAfter, cross, separation_at, relative_of}
use Rattle.worked_laws.specs.Pair.{pair_rules, pair_disks, hit_stamp}
use Rattle.worked_laws.proofs.PairRun.{first, second}
use Rattle.worked_laws.proofs.Hit.{no_bounce, is_first, is_second, carried}
use Rattle.worked_laws.proofs.collisions.the_touch_is_at_tick_three.Goals as goal

abbrev touching : Moment
touching = record { tick = 3; part = 0; whole = 1 }

-- at tick 3 the two touch
touch_without_overlap : ¬ OverlapAt touching first second
unfolding half_of
touch_without_overlap h = omega (arith, ints)

-- the impulse to the right is from -4 to 0
bounded : (j : Vector) → IsWithinOneAt (separation_at touching first second) (relative_of first second) j (contact_distance first second) →
    (neg_ℤ (pos 4) ≤ℤ j.x) × (j.x ≤ℤ pos 0)
unfolding half_of
bounded j h = let k : 4 * nat_abs ((pos 16 *ℤ j.x) +ℤ pos 32) ≤ 128 = h.0 in (omega (arith, ints), omega (arith, ints))

-- the angular momentum about the middle of a disk at the place with the velocity
abbrev turns_at : Vector → Vector → ℤ
turns_at place velocity = cross (difference place (vector (pos 15) (pos 10))) velocity

-- two disks that were as these are now at these places, with these velocities, turn as the law allows
abbrev TurnsLittle : Vector → Vector → Vector → Vector → Disk → Disk → ℕ → Type 0
TurnsLittle p v q w a b tick =
    nat_abs ((turns_at p v +ℤ turns_at q w) -ℤ (turns_at (place_of a tick) (velocity_of a) +ℤ turns_at (place_of b tick) (velocity_of b)))
    < nat_abs (difference (place_of a tick) (place_of b tick)).x + nat_abs (difference (place_of a tick) (place_of b tick)).y

-- places and velocities may be told otherwise
same_turn : (p x v y q z w u : Vector) (a b : Disk) (n : ℕ) → p ≡ x → v ≡ y → q ≡ z → w ≡ u → TurnsLittle p v q w a b n → TurnsLittle x y z u a b n
same_turn p x v y q z w u a b n place velocity other faster h =
    subst (λ (k : Vector). TurnsLittle k y z u a b n) place (subst (λ (k : Vector). TurnsLittle p k z u a b n) velocity
    (subst (λ (k : Vector). TurnsLittle p v k u a b n) other (subst (λ (k : Vector). TurnsLittle p v q k a b n) faster h)))

-- so the impulse isn't upwards
not_upwards : (j : Vector) →
    TurnsLittle (place_of first 3) (sum (velocity_of first) j) (place_of second 3) (difference (velocity_of second) j) first second 3 → j.y ≡ pos 0
not_upwards j h = omega (arith, ints)

abbrev GoesOn : Change → Type 0
GoesOn c = (neg_ℤ (pos 3) ≤ℤ c.first.vx) × (c.first.vx ≤ℤ pos 1) × (c.first.vy ≡ pos 0)

goes_on : (c : Change) → c.stamp ≡ hit_stamp → IsElasticBounce pair_disks c ⊎ IsElasticTouch pair_disks c → GoesOn c
goes_on c same (inl bounce) = absurd (no_bounce c same bounce)
goes_on c same (inr touch) = goes
  where
    hit : IsElasticCollision pair_disks c
    hit = touch.collision

    tick : c.stamp.tick ≡ 3
    tick = ap (λ (s : Stamp). s.tick) same

    one : hit.first ≡ first
    one = is_first c hit same

    other : hit.second ≡ second
    other = is_second c hit same

    apart : ¬ OverlapAt touching hit.first hit.second
    apart = carried (λ (a : Disk) (b : Disk) (n : ℕ). ¬ OverlapAt touching a b) first second hit.first hit.second 3 3 (sym one) (sym other) (λ i. 3)
        touch_without_overlap

    near : (neg_ℤ (pos 4) ≤ℤ hit.impulse.x) × (hit.impulse.x ≤ℤ pos 0)
    near = bounded hit.impulse
        (carried (λ (a : Disk) (b : Disk) (n : ℕ). IsWithinOneAt (separation_at touching a b) (relative_of a b) hit.impulse (contact_distance a b))
        hit.first hit.second first second 3 3 one other (λ i. 3)
        (touch.impulse touching (record { some = omega arith; most = omega arith }) (sym tick) apart))

    little : TurnsLittle (place_of hit.first c.stamp.tick) (sum (velocity_of hit.first) hit.impulse)
        (place_of hit.second c.stamp.tick) (difference (velocity_of hit.second) hit.impulse) hit.first hit.second c.stamp.tick
    little = same_turn _ _ _ _ _ _ _ _ hit.first hit.second c.stamp.tick hit.first_goes_on.place hit.first_goes_on.velocity_after
        hit.second_goes_on.place hit.second_goes_on.velocity_after (touch.turns (vector (pos 15) (pos 10)))

    level : hit.impulse.y ≡ pos 0
    level = not_upwards hit.impulse
        (carried (λ (a : Disk) (b : Disk) (n : ℕ). TurnsLittle (place_of a n) (sum (velocity_of a) hit.impulse) (place_of b n) (difference (velocity_of b) hit.impulse) a b n)
        hit.first hit.second first second c.stamp.tick 3 one other tick little)

    velocity : velocity_of c.first ≡ vector (pos 1 +ℤ hit.impulse.x) (pos 0 +ℤ hit.impulse.y)
    velocity = hit.first_goes_on.velocity_after ∙ ap (λ (a : Disk). sum (velocity_of a) hit.impulse) one

    goes : GoesOn c
    goes =
        let x : c.first.vx ≡ pos 1 +ℤ hit.impulse.x = ap (λ (v : Vector). v.x) velocity in
        let y : c.first.vy ≡ pos 0 +ℤ hit.impulse.y = ap (λ (v : Vector). v.y) velocity in
        let least = near.0 in let most = near.1 in let up = level in
        (omega (arith, ints), omega (arith, ints), omega (arith, ints))

pub returns-clause-impulse : goal.returns-clause-impulse
returns-clause-impulse c change after outcome run same =
    goes_on change same (c.events_are_elastic_at_the_touch.ensures pair_rules pair_disks [] after change outcome run)

-- ---- the touch
abbrev at_part : ℕ → ℕ → Moment
at_part part whole = record { tick = 3; part = part; whole = whole }

-- places nearer than k on one axis, and the same on the other
close : (x y : ℤ) (n k : ℕ) → x ≡ negsuc n → y ≡ pos 0 → suc n < k → ((x *ℤ x) +ℤ (y *ℤ y)) <ℤ pos (k * k)
close x y n k across level less = rw (across, level) (let square : (suc n + 1) * (suc n + 1) ≤ k * k = mul-le-mul (omega arith) (omega arith) in omega (arith, ints))

-- one part later the two are 4 units less two parts apart, on the other axis not at all
overlap_one_part_later : (whole : ℕ) → 1 < whole → OverlapAt (at_part 1 whole) first second
unfolding half_of
overlap_one_part_later whole some =
    close (((pos 13 *ℤ pos whole) +ℤ (pos 1 *ℤ pos 1)) -ℤ ((pos 17 *ℤ pos whole) +ℤ (neg_ℤ (pos 1) *ℤ pos 1)))
    (((pos 10 *ℤ pos whole) +ℤ (pos 0 *ℤ pos 1)) -ℤ ((pos 10 *ℤ pos whole) +ℤ (pos 0 *ℤ pos 1)))
    (4 * whole - 3) (4 * whole) (omega (arith, ints)) (omega (arith, ints)) (omega arith)

-- so the touch is at the beginning of the tick
at_once : (most : ℕ) → TouchesSoonAfter first second 3 most → (whole : ℕ) × (most < whole) × OverlapAt (at_part 1 whole) first second
at_once most touch = by_part touch.part touch.apart touch.within touch.overlap
  where
    by_part : (part : ℕ) → ((n : ℕ) → n ≤ part → ¬ OverlapAt (at_part n touch.whole) first second) → part < touch.whole →
        OverlapAt (at_part (part + 1) touch.whole) first second → (whole : ℕ) × (most < whole) × OverlapAt (at_part 1 whole) first second
    by_part zero apart within overlap = (touch.whole, touch.fine, overlap)
    by_part (suc n) apart within overlap = absurd (apart 1 (omega arith) (overlap_one_part_later touch.whole (omega arith)))

touches : (c : Change) → c.stamp ≡ hit_stamp → IsElasticBounce pair_disks c ⊎ IsElasticTouch pair_disks c → (most : ℕ) →
    (whole : ℕ) × (most < whole) × OverlapAt (at_part 1 whole) first second
touches c same (inl bounce) most = absurd (no_bounce c same bounce)
touches c same (inr touch) most =
    at_once most (carried (λ (a : Disk) (b : Disk) (n : ℕ). TouchesSoonAfter a b n most) touch.collision.first touch.collision.second first second
    c.stamp.tick 3 (is_first c touch.collision same) (is_second c touch.collision same) (ap (λ (s : Stamp). s.tick) same) (touch.touch most))

pub returns-clause-touch : goal.returns-clause-touch
returns-clause-touch c change after outcome run same most =
    touches change same (c.events_are_elastic_at_the_touch.ensures pair_rules pair_disks [] after change outcome run) most
