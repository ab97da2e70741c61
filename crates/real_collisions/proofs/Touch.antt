-- The contact tick of two disks is the tick from which on they touch.
use Rattle.std.proofs.Common.{◌≡◌, ℕ, zero, suc, ◌+◌, ◌-◌, subst, sym, refl, arith}
use Rattle.std.specs.Prelude.{ℤ, pos, ◌-ℤ◌, ◌*ℤ◌, ◌≤ℤ◌, ◌<ℤ◌}
use Rattle.std.proofs.lemmas.Int.{ints}
use Rattle.plane_vectors.specs.declared.Vector.{Vector}
use Rattle.plane_vectors.specs.Vectors.{difference, dot}
use Rattle.fixed_motion.specs.declared.rules.Rules.{Rules}
use Rattle.fixed_motion.specs.declared.disk.Disk.{Disk}
use Rattle.fixed_motion.specs.Motion.{Overlaps, contact_distance, place_of, velocity_of}
use Rattle.contact_predictor.specs.Contact.{IsApproaching, IsContact}
use Rattle.contact_predictor.proofs.Approaching.{approaching_before}
use Rattle.event_rules.specs.Events.{IsContactTick}
use Rattle.event_rules.specs.Predict.{HaveBegun, AreInside}
use Rattle.event_rules.specs.Moments.{Moment, IsWithinTick, OverlapAt}
use Rattle.event_rules.proofs.OneTick.{separation_next}
use Rattle.event_rules.proofs.Within.{contact_within}
use Rattle.event_rules.proofs.Between.{separation_between}
use Rattle.real_collisions.specs.Touching.{TouchFrom, ContactTicksAreReal}
use Rattle.real_collisions.proofs.Closest.{OverlapAfter, contact_overlaps}

-- ---- two disks at a tick, and from there on
abbrev separation : Disk → Disk → ℕ → Vector
separation a b tick = difference (place_of a tick) (place_of b tick)

abbrev relative : Disk → Disk → Vector
relative a b = difference (velocity_of a) (velocity_of b)

apart_at : (a b : Disk) (tick : ℕ) → IsApproaching (separation a b tick) (relative a b) (contact_distance a b) →
    ¬ Overlaps (contact_distance a b) (place_of a tick) (place_of b tick)
apart_at a b tick h = not_below _ _ h.apart
  where
    not_below : (m n : ℤ) → pos 0 ≤ℤ (m -ℤ n) → ¬ (m <ℤ n)
    not_below m n h lt = omega (arith, ints)

-- that two disks overlap at a moment, as a fact of their separation
abbrev IsWithin : Vector → ℤ → Type 0
IsWithin r length = dot r r <ℤ (length *ℤ length)

overlap_at : (a b : Disk) (m : Moment) →
    OverlapAfter (separation a b m.tick) (relative a b) (contact_distance a b) m.part m.whole → OverlapAt m a b
overlap_at a b m h =
    subst (λ (r : Vector). IsWithin r (contact_distance a b *ℤ pos m.whole)) (sym (separation_between a b m)) h

contact_at : (a b : Disk) (m : Moment) → IsWithinTick m → ¬ Overlaps (contact_distance a b) (place_of a m.tick) (place_of b m.tick) →
    OverlapAt m a b → IsContact (separation a b m.tick) (relative a b) (contact_distance a b)
contact_at a b m within apart overlap =
    contact_within (separation a b m.tick) (relative a b) (contact_distance a b) m.part m.whole within.most apart
    (subst (λ (r : Vector). IsWithin r (contact_distance a b *ℤ pos m.whole)) (separation_between a b m) overlap)

-- ---- before it
Approach : Disk → Disk → ℕ → Type 0
Approach a b tick = IsApproaching (separation a b tick) (relative a b) (contact_distance a b)

approach_before : (a b : Disk) (tick : ℕ) → HaveBegun a b tick → Approach a b (tick + 1) → Approach a b tick
unfolding Approach
approach_before a b tick begun h =
    approaching_before (separation a b tick) (relative a b) (contact_distance a b)
    (subst (λ (r : Vector). IsApproaching r (relative a b) (contact_distance a b)) (separation_next a b tick begun.0 begun.1) h)

approach_ticks_before : (a b : Disk) (tick n : ℕ) → HaveBegun a b tick → Approach a b (tick + n) → Approach a b tick
unfolding Approach
approach_ticks_before a b tick zero begun h =
    let e : tick + 0 ≡ tick = omega arith in subst (Approach a b) e h
approach_ticks_before a b tick (suc n) begun h =
    let e : tick + suc n ≡ (tick + n) + 1 = omega arith in
    approach_ticks_before a b tick n begun
    (approach_before a b (tick + n) (omega arith, omega arith) (subst (Approach a b) e h))

-- two disks that approach a tick later don't overlap up to there
none_before : (a b : Disk) (m : Moment) → IsWithinTick m → HaveBegun a b m.tick → Approach a b (m.tick + 1) → ¬ OverlapAt m a b
unfolding Approach
none_before a b m within begun next overlap =
    let contact = contact_at a b m within (apart_at a b m.tick (approach_before a b m.tick begun next)) overlap in
    contact.last (subst (λ (r : Vector). IsApproaching r (relative a b) (contact_distance a b))
    (separation_next a b m.tick begun.0 begun.1) next)

-- ---- the contact tick
pub touch_from : (rules : Rules) (a b : Disk) (tick : ℕ) → IsContactTick rules a b tick → TouchFrom a b tick
unfolding Approach
touch_from rules a b tick h =
    let soon = contact_overlaps (separation a b tick) (relative a b) (contact_distance a b) h.contact in
    let moment : Moment = record { tick = tick; part = soon.part; whole = soon.whole } in
    record {
      before = λ m within first second lt.
          let e : tick ≡ (m.tick + 1) + (tick - (m.tick + 1)) = omega arith in
          none_before a b m within (first, second)
          (approach_ticks_before a b (m.tick + 1) (tick - (m.tick + 1)) (omega arith, omega arith)
          (subst (Approach a b) e h.contact.approaching));
      apart = apart_at a b tick h.contact.approaching;
      moment = moment;
      within = record { some = soon.some; most = soon.most };
      from = refl;
      overlap = overlap_at a b moment soon.overlap;
    }

contact_from : (rules : Rules) (a b : Disk) (tick : ℕ) → HaveBegun a b tick → AreInside rules a b tick → TouchFrom a b tick →
    IsContactTick rules a b tick
contact_from rules a b tick begun inside touch = record {
  first_base = begun.0;
  second_base = begun.1;
  first_inside = inside.0;
  second_inside = inside.1;
  contact = by_tick tick touch.from touch.apart;
}
  where
    by_tick : (t : ℕ) → touch.moment.tick ≡ t → ¬ Overlaps (contact_distance a b) (place_of a t) (place_of b t) →
        IsContact (separation a b t) (relative a b) (contact_distance a b)
    by_tick t e apart =
        subst (λ (n : ℕ). IsContact (separation a b n) (relative a b) (contact_distance a b)) e
        (contact_at a b touch.moment touch.within
        (subst (λ (n : ℕ). ¬ Overlaps (contact_distance a b) (place_of a n) (place_of b n)) (sym e) apart) touch.overlap)

pub contact_ticks_are_real : ContactTicksAreReal
contact_ticks_are_real rules a b tick begun inside = (touch_from rules a b tick, contact_from rules a b tick begun inside)
