-- The run of the two that meet aslant, step by step from the definitions, with no law.
use Rattle.std.proofs.Common.{◌≡◌, inl, inr, ℕ, zero, suc, ◌+◌, ◌-◌, ◌<◌, ◌≤◌, List, Some, Ok, slice_get, refl, sym, subst, ap, ◌∙◌, arith}
use Rattle.std.specs.Prelude.{pos, neg_ℤ, ◌+ℤ◌, ◌-ℤ◌, ◌*ℤ◌, ◌≤ℤ◌, ◌<ℤ◌}
use Rattle.std.proofs.lemmas.Int.{ints}
use Rattle.std.proofs.lemmas.Option.{none-some, same_Some}
use Rattle.fixed_motion.specs.declared.disk.Disk.{Disk}
use Rattle.fixed_motion.specs.Motion.{half_of, centre_of, place_of, IsInside}
use Rattle.event_stamps.specs.declared.Stamp.{Stamp}
use Rattle.event_stamps.specs.Order.{Before}
use Rattle.event_rules.specs.declared.change.Change.{Change}
use Rattle.event_rules.specs.declared.outcome.Spot.{Spot}
use Rattle.event_rules.specs.declared.outcome.Outcome.{Outcome}
use Rattle.event_rules.specs.declared.outcome.Outcome.TheVariants.{Done}
use Rattle.event_rules.specs.Events.{IsPast, IsContactTick, IsWallEvent, IsWallTick, pair_stamp, wall_stamp}
use Rattle.event_rules.specs.Run.{IsRun, IsCandidate, IsNext, ComesTo, effect}
use Rattle.event_rules.proofs.OneRun.{one_run}
use Rattle.event_rules.proofs.Walls.{wall_not_before}
use Rattle.worked_laws.specs.Rows.{disk_from}
use Rattle.worked_laws.specs.Pair.{pair_rules}
use Rattle.worked_laws.specs.Glance.{glance_disks, glance_scene, glance_stamp, the_glance, landing_stamp, the_landing, glance_changes, glance_end}
use Rattle.worked_laws.proofs.Sides.{of_two}

abbrev pub first : Disk
first = disk_from (pos 10) (pos 6) (pos 2) (pos 0) 0 0

abbrev pub second : Disk
second = disk_from (pos 17) (pos 3) (pos 0) (pos 0) 0 0

abbrev first_after : Disk
first_after = disk_from (pos 14) (pos 6) (pos 1) (pos 1) 2 1

abbrev pub second_after : Disk
second_after = disk_from (pos 17) (pos 3) (pos 1) (neg_ℤ (pos 1)) 2 1

abbrev second_landed : Disk
second_landed = disk_from (pos 18) (pos 2) (pos 1) (pos 1) 3 1

-- ---- the sides
-- a disk that is inside at tick 5 hits none
hits_none : (a : Disk) (number : ℕ) (s : Stamp) → IsInside pair_rules a (centre_of a) → IsInside pair_rules a (place_of a 5) →
    IsWallEvent pair_rules number a s.second s → ⊥
hits_none a number s centre inside event =
    let late : 5 ≤ s.tick = wall_not_before pair_rules a s.second 5 s.tick centre inside event.0 in
    let few : s.tick < 5 = event.1 in omega arith

first_hits_none : (number : ℕ) (s : Stamp) → IsWallEvent pair_rules number first s.second s → ⊥
unfolding half_of
first_hits_none number s event = hits_none first number s
    (record { left = omega (arith, ints); right = omega (arith, ints); bottom = omega (arith, ints); top = omega (arith, ints) })
    (record { left = omega (arith, ints); right = omega (arith, ints); bottom = omega (arith, ints); top = omega (arith, ints) }) event

second_hits_none : (number : ℕ) (s : Stamp) → IsWallEvent pair_rules number second s.second s → ⊥
unfolding half_of
second_hits_none number s event = hits_none second number s
    (record { left = omega (arith, ints); right = omega (arith, ints); bottom = omega (arith, ints); top = omega (arith, ints) })
    (record { left = omega (arith, ints); right = omega (arith, ints); bottom = omega (arith, ints); top = omega (arith, ints) }) event

first_after_hits_none : (number : ℕ) (s : Stamp) → IsWallEvent pair_rules number first_after s.second s → ⊥
unfolding half_of
first_after_hits_none number s event = hits_none first_after number s
    (record { left = omega (arith, ints); right = omega (arith, ints); bottom = omega (arith, ints); top = omega (arith, ints) })
    (record { left = omega (arith, ints); right = omega (arith, ints); bottom = omega (arith, ints); top = omega (arith, ints) }) event

second_landed_hits_none : (number : ℕ) (s : Stamp) → IsWallEvent pair_rules number second_landed s.second s → ⊥
unfolding half_of
second_landed_hits_none number s event = hits_none second_landed number s
    (record { left = omega (arith, ints); right = omega (arith, ints); bottom = omega (arith, ints); top = omega (arith, ints) })
    (record { left = omega (arith, ints); right = omega (arith, ints); bottom = omega (arith, ints); top = omega (arith, ints) }) event

-- ---- the hit
touches : IsContactTick pair_rules first second 2
unfolding half_of
touches = record {
  first_base = omega arith;
  second_base = omega arith;
  first_inside = record { left = omega (arith, ints); right = omega (arith, ints); bottom = omega (arith, ints); top = omega (arith, ints) };
  second_inside = record { left = omega (arith, ints); right = omega (arith, ints); bottom = omega (arith, ints); top = omega (arith, ints) };
  contact = record {
    approaching = record { apart = omega (arith, ints); approaching = omega (arith, ints) };
    crossing = omega (arith, ints);
    last = λ more. overlapping more.apart;
  };
}
  where
    overlapping : pos 0 ≤ℤ (pos 10 -ℤ pos 16) → ⊥
    overlapping h = omega (arith, ints)

-- before tick 2 they approach a tick later too, and after it they overlap
only_tick : (tick : ℕ) → tick < 5 → IsContactTick pair_rules first second tick → tick ≡ 2
unfolding half_of
only_tick zero few h = absurd (h.contact.last (record { apart = omega (arith, ints); approaching = omega (arith, ints) }))
only_tick (suc zero) few h = absurd (h.contact.last (record { apart = omega (arith, ints); approaching = omega (arith, ints) }))
only_tick (suc (suc zero)) few h = refl
only_tick (suc (suc (suc zero))) few h = let apart : pos 0 ≤ℤ (pos 10 -ℤ pos 16) = h.contact.approaching.apart in absurd (omega (arith, ints))
only_tick (suc (suc (suc (suc zero)))) few h = let apart : pos 0 ≤ℤ (pos 10 -ℤ pos 16) = h.contact.approaching.apart in absurd (omega (arith, ints))
only_tick (suc (suc (suc (suc (suc n))))) few h = absurd (omega arith)

pub only_glance : (s : Stamp) → IsCandidate pair_rules glance_disks s → s ≡ glance_stamp
only_glance s (inl wall) = absurd (by_number s.first wall.1 wall.2)
  where
    by_number : (i : ℕ) → slice_get glance_disks i ≡ Some wall.0 → IsWallEvent pair_rules s.first wall.0 s.second s → ⊥
    by_number zero at event = first_hits_none s.first s (subst (λ (d : Disk). IsWallEvent pair_rules s.first d s.second s) (sym (same_Some _ _ at)) event)
    by_number (suc zero) at event = second_hits_none s.first s (subst (λ (d : Disk). IsWallEvent pair_rules s.first d s.second s) (sym (same_Some _ _ at)) event)
    by_number (suc (suc i)) at event = none-some wall.0 at
only_glance s (inr pair) =
    let event = of_two first second s pair in event.2 ∙ ap (pair_stamp 0 first 1 second) (only_tick s.tick event.1 event.0)

glances : IsNext pair_rules glance_disks glance_stamp
glances = (
  inr (omega arith, (first, refl, (second, refl, (touches, omega arith, refl)))),
  λ t h k. never (subst (λ (s : Stamp). Before s glance_stamp) (only_glance t h) k),
)
  where
    never : Before glance_stamp glance_stamp → ⊥
    never h = cc

pub comes : ComesTo pair_rules glance_disks glance_stamp (Ok the_glance)
comes = (first, refl, refl)

-- ---- the bottom
lands : IsWallTick pair_rules second_after 2 3
unfolding half_of
lands = record {
  base = omega arith;
  inside = record { left = omega (arith, ints); right = omega (arith, ints); bottom = omega (arith, ints); top = omega (arith, ints) };
  past = inr (inr (inl (refl, omega (arith, ints))));
}

-- it is inside at tick 3, and no longer
last_tick : (side tick : ℕ) → IsWallTick pair_rules second_after side tick → tick ≡ 3
unfolding half_of
last_tick side tick h =
    let early : 3 ≤ tick = wall_not_before pair_rules second_after side 3 tick
    (record { left = omega (arith, ints); right = omega (arith, ints); bottom = omega (arith, ints); top = omega (arith, ints) })
    (record { left = omega (arith, ints); right = omega (arith, ints); bottom = omega (arith, ints); top = omega (arith, ints) }) h in
    let late : pos 2 ≤ℤ (pos 3 +ℤ (neg_ℤ (pos 1) *ℤ pos (tick - 2))) = h.inside.bottom in
    omega (arith, ints)

-- and then past the bottom
only_side : (side : ℕ) → IsPast pair_rules second_after side (place_of second_after 4) → side ≡ 2
unfolding half_of
only_side side (inl h) = let k : pos 19 <ℤ pos 2 = h.1 in absurd (omega (arith, ints))
only_side side (inr (inl h)) = let k : pos 38 <ℤ pos 19 = h.1 in absurd (omega (arith, ints))
only_side side (inr (inr (inl h))) = h.0
only_side side (inr (inr (inr h))) = let k : pos 18 <ℤ pos 1 = h.1 in absurd (omega (arith, ints))

landing_of : (s : Stamp) → IsWallEvent pair_rules 1 second_after s.second s → s ≡ landing_stamp
landing_of s event =
    let tick = last_tick s.second s.tick event.0 in
    let side = only_side s.second (subst (λ (n : ℕ). IsPast pair_rules second_after s.second (place_of second_after (n + 1))) tick event.0.past) in
    (event.2 ∙ ap (wall_stamp 1 second_after s.second) tick) ∙ ap (λ (n : ℕ). wall_stamp 1 second_after n 3) side

-- after the hit the two recede
recede : (tick : ℕ) → tick < 5 → IsContactTick pair_rules first_after second_after tick → ⊥
recede (suc (suc zero)) few h = let nearing : pos 6 <ℤ pos 0 = h.contact.approaching.approaching in omega (arith, ints)
recede (suc (suc (suc zero))) few h = let nearing : pos 10 <ℤ pos 0 = h.contact.approaching.approaching in omega (arith, ints)
recede (suc (suc (suc (suc zero)))) few h = let nearing : pos 14 <ℤ pos 0 = h.contact.approaching.approaching in omega (arith, ints)
recede tick few h = let base : 2 ≤ tick = h.first_base in omega arith

pub only_landing : (s : Stamp) → IsCandidate pair_rules (effect glance_disks the_glance) s → s ≡ landing_stamp
only_landing s (inl wall) = by_number s.first wall.1 wall.2
  where
    by_number : (i : ℕ) → slice_get (effect glance_disks the_glance) i ≡ Some wall.0 → IsWallEvent pair_rules i wall.0 s.second s → s ≡ landing_stamp
    by_number zero at event =
        absurd (first_after_hits_none 0 s (subst (λ (d : Disk). IsWallEvent pair_rules 0 d s.second s) (sym (same_Some _ _ at)) event))
    by_number (suc zero) at event = landing_of s (subst (λ (d : Disk). IsWallEvent pair_rules 1 d s.second s) (sym (same_Some _ _ at)) event)
    by_number (suc (suc i)) at event = absurd (none-some wall.0 at)
only_landing s (inr pair) =
    let event = of_two first_after second_after s pair in absurd (recede s.tick event.1 event.0)

landing_next : IsNext pair_rules (effect glance_disks the_glance) landing_stamp
landing_next = (
  inl (second_after, refl, (lands, omega arith, refl)),
  λ t h k. never (subst (λ (s : Stamp). Before s landing_stamp) (only_landing t h) k),
)
  where
    never : Before landing_stamp landing_stamp → ⊥
    never h = cc

turns : ComesTo pair_rules (effect glance_disks the_glance) landing_stamp (Ok the_landing)
turns = (second_after, refl, refl)

-- ---- the end
-- then they fly side by side
side_by_side : (tick : ℕ) → tick < 5 → IsContactTick pair_rules first_after second_landed tick → ⊥
side_by_side (suc (suc (suc zero))) few h = let nearing : pos 0 <ℤ pos 0 = h.contact.approaching.approaching in omega (arith, ints)
side_by_side (suc (suc (suc (suc zero)))) few h = let nearing : pos 0 <ℤ pos 0 = h.contact.approaching.approaching in omega (arith, ints)
side_by_side tick few h = let base : 3 ≤ tick = h.second_base in omega arith

none_left : (s : Stamp) → IsCandidate pair_rules (effect (effect glance_disks the_glance) the_landing) s → ⊥
none_left s (inl wall) = by_number s.first wall.1 wall.2
  where
    by_number : (i : ℕ) → slice_get (effect (effect glance_disks the_glance) the_landing) i ≡ Some wall.0 → IsWallEvent pair_rules s.first wall.0 s.second s → ⊥
    by_number zero at event = first_after_hits_none s.first s (subst (λ (d : Disk). IsWallEvent pair_rules s.first d s.second s) (sym (same_Some _ _ at)) event)
    by_number (suc zero) at event = second_landed_hits_none s.first s (subst (λ (d : Disk). IsWallEvent pair_rules s.first d s.second s) (sym (same_Some _ _ at)) event)
    by_number (suc (suc i)) at event = none-some wall.0 at
none_left s (inr pair) = let event = of_two first_after second_landed s pair in side_by_side s.tick event.1 event.0

pub glance_run : IsRun glance_scene glance_changes (Done glance_end)
glance_run = (glances, comes, (landing_next, turns, (none_left, refl)))

-- ---- it has no other
pub only_changes : (changes : List Change) (outcome : Outcome) → IsRun glance_scene changes outcome → changes ≡ glance_changes
only_changes changes outcome run = (one_run pair_rules glance_disks changes glance_changes outcome (Done glance_end) run glance_run).0

pub only_spots : (changes : List Change) (spots : List Spot) → IsRun glance_scene changes (Done spots) → spots ≡ glance_end
only_spots changes spots run =
    let e : ◌≡◌ {A = Outcome} (Done spots) (Done glance_end) = (one_run pair_rules glance_disks changes glance_changes (Done spots) (Done glance_end) run glance_run).1 in
    cc
