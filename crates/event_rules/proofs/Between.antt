-- At each moment of a run, also between ticks, all disks are inside and no two overlap.
use Rattle.std.proofs.Common.{◌≡◌, inl, inr, ℕ, ◌+◌, ◌-◌, ◌<◌, ◌≤◌, List, subst, refl, arith}
use Rattle.std.specs.Prelude.{ℤ, pos, negsuc, ◌+ℤ◌, ◌-ℤ◌, ◌*ℤ◌, ◌≤ℤ◌, ◌<ℤ◌}
use Rattle.std.proofs.lemmas.Int.{ints}
use native.Mathlib.Nat.{le_refl}
use Rattle.plane_vectors.specs.declared.Vector.{Vector}
use Rattle.plane_vectors.specs.Vectors.{vector, difference, dot, after}
use Rattle.plane_vectors.proofs.Products.{distributes}
use Rattle.fixed_motion.specs.declared.rules.Rules.{Rules}
use Rattle.fixed_motion.specs.declared.disk.Disk.{Disk}
use Rattle.fixed_motion.specs.Motion.{IsInside, FitsAt, place_of, centre_of, velocity_of, radius_of, contact_distance}
use Rattle.contact_predictor.proofs.Approaching.{place_next}
use Rattle.event_rules.specs.Events.{wall_stamp, pair_stamp}
use Rattle.event_rules.specs.Run.{state_at}
use Rattle.event_rules.specs.Moments.{Moment, IsWithinTick, place_at, IsInsideAt, AreApartAt, NeverOverlapsBetween}
use Rattle.event_rules.proofs.Apart.{Rests, inside_next, scene_rests}
use Rattle.event_rules.proofs.Within.{scaled, minus_times, contact_within}

-- ---- one disk
times_more : (a b : ℤ) (n : ℕ) → a ≤ℤ b → (a *ℤ pos n) ≤ℤ (b *ℤ pos n)
times_more a b n le =
    let some = not_negative (b -ℤ a) (omega (arith, ints)) in
    let way = minus_times b a (pos n) in
    omega (arith, ints)
  where
    not_negative : (d : ℤ) → pos 0 ≤ℤ d → pos 0 ≤ℤ (d *ℤ pos n)
    not_negative (pos d) h = omega (arith, ints)
    not_negative (negsuc d) h = absurd (omega (arith, ints))

-- a coordinate that is on one side of a bound at a tick and at the next is there between the two
keeps_above : (l x v : ℤ) (p q : ℕ) → p ≤ q → l ≤ℤ x → l ≤ℤ (x +ℤ v) → (l *ℤ pos q) ≤ℤ ((x *ℤ pos q) +ℤ (v *ℤ pos p))
keeps_above l x v p q le now next = by_rest (q - p) (omega arith)
  where
    by_rest : (d : ℕ) → q ≡ p + d → (l *ℤ pos q) ≤ℤ ((x *ℤ pos q) +ℤ (v *ℤ pos p))
    by_rest d e =
        let first = times_more l x d now in
        let then = times_more l (x +ℤ v) p next in
        let sum = distributes x v (pos p) in
        rw e (omega (arith, ints))

keeps_below : (h x v : ℤ) (p q : ℕ) → p ≤ q → x ≤ℤ h → (x +ℤ v) ≤ℤ h → ((x *ℤ pos q) +ℤ (v *ℤ pos p)) ≤ℤ (h *ℤ pos q)
keeps_below h x v p q le now next = by_rest (q - p) (omega arith)
  where
    by_rest : (d : ℕ) → q ≡ p + d → ((x *ℤ pos q) +ℤ (v *ℤ pos p)) ≤ℤ (h *ℤ pos q)
    by_rest d e =
        let first = times_more x h d now in
        let then = times_more (x +ℤ v) h p next in
        let sum = distributes x v (pos p) in
        rw e (omega (arith, ints))

inside_between : (rules : Rules) (a : Disk) (m : Moment) → IsWithinTick m → a.base ≤ m.tick →
    IsInside rules a (place_of a m.tick) → IsInside rules a (place_of a (m.tick + 1)) → IsInsideAt rules a m
inside_between rules a m within begun now next =
    let place = place_of a m.tick in
    let then : FitsAt rules (radius_of a) (vector (place.x +ℤ a.vx) (place.y +ℤ a.vy)) =
    subst (FitsAt rules (radius_of a)) (place_next (centre_of a) (velocity_of a) a.base m.tick begun) next in
    let radius = radius_of a in
    record {
      left = keeps_above radius place.x a.vx m.part m.whole within.most now.left then.left;
      right = keeps_below (rules.width -ℤ radius) place.x a.vx m.part m.whole within.most now.right then.right;
      bottom = keeps_above radius place.y a.vy m.part m.whole within.most now.bottom then.bottom;
      top = keeps_below (rules.height -ℤ radius) place.y a.vy m.part m.whole within.most now.top then.top;
    }

-- ---- two disks
coordinates_between : (x y u v : ℤ) (p q : ℕ) →
    (((x *ℤ pos q) +ℤ (u *ℤ pos p)) -ℤ ((y *ℤ pos q) +ℤ (v *ℤ pos p))) ≡ ((x -ℤ y) *ℤ pos q) +ℤ ((u -ℤ v) *ℤ pos p)
coordinates_between x y u v p q =
    let places = minus_times x y (pos q) in
    let ways = minus_times u v (pos p) in
    omega (arith, ints)

pub separation_between : (a b : Disk) (m : Moment) → difference (place_at m a) (place_at m b)
    ≡ after (scaled (difference (place_of a m.tick) (place_of b m.tick)) m.whole) (difference (velocity_of a) (velocity_of b)) m.part
separation_between a b m =
    let x = coordinates_between (place_of a m.tick).x (place_of b m.tick).x a.vx b.vx m.part m.whole in
    let y = coordinates_between (place_of a m.tick).y (place_of b m.tick).y a.vy b.vy m.part m.whole in
    λ i. vector (x i) (y i)

-- ---- all disks
sooner : (m n : ℕ) → m + 1 ≤ n → m < n
sooner m n le = omega arith

-- in a state whose next event isn't before the next tick
rests_between : (rules : Rules) (disks : List Disk) (m : Moment) → IsWithinTick m →
    Rests rules disks (m.tick + 1) m.tick → AreApartAt rules disks m
rests_between rules disks m within rests =
    let before : m.tick < rules.end = sooner m.tick rules.end rests.end in
    let stands = rests.stands in
    let none = rests.none in
    let tick = m.tick in
    record {
      inside = λ i a at.
          let begun = stands.begun i a at in
          let now = stands.apart.inside i a at in
          inside_between rules a m within begun now
          (inside_next rules a tick begun now
          (λ side wall. let never : tick + 1 ≤ tick = none (wall_stamp i a side tick) (inl (a, at, (wall, before, refl))) in omega arith));
      apart = λ i j a b lt at other overlap.
          let distance = contact_distance a b in
          let contact =
          contact_within (difference (place_of a tick) (place_of b tick)) (difference (velocity_of a) (velocity_of b)) distance m.part m.whole
          within.most (stands.apart.apart i j a b lt at other)
          (subst (λ (r : Vector). dot r r <ℤ ((distance *ℤ pos m.whole) *ℤ (distance *ℤ pos m.whole))) (separation_between a b m) overlap) in
          let never : tick + 1 ≤ tick =
          none (pair_stamp i a j b tick) (inr (
            lt,
            (
              a,
              at,
              (
                b,
                other,
                (
                  record {
                    first_base = stands.begun i a at;
                    second_base = stands.begun j b other;
                    first_inside = stands.apart.inside i a at;
                    second_inside = stands.apart.inside j b other;
                    contact = contact;
                  },
                  before,
                  refl,
                ),
              ),
            ),
          )) in
          omega arith;
    }

pub never_overlaps_between : NeverOverlapsBetween
never_overlaps_between scene changes outcome valid run m within to =
    rests_between scene.rules (state_at scene.disks changes (m.tick + 1)) m within
    (scene_rests scene changes outcome valid run (m.tick + 1) m.tick (omega arith) (le_refl (m.tick + 1)) (later m.tick _ to))
  where
    later : (m n : ℕ) → m < n → m + 1 ≤ n
    later m n lt = omega arith
