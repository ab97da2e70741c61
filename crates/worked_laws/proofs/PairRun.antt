-- The run of the pair, step by step from the definitions, with no law.
use Rattle.std.proofs.Common.{◌≡◌, inl, inr, ℕ, zero, suc, ◌+◌, ◌-◌, ◌<◌, ◌≤◌, [], ◌∷◌, Some, Ok, slice_get, refl, sym, subst, ap, ◌∙◌, arith}
use Rattle.std.specs.Prelude.{pos, neg_ℤ, ◌-ℤ◌, ◌≤ℤ◌, ◌<ℤ◌}
use Rattle.std.proofs.lemmas.Int.{ints}
use Rattle.std.proofs.lemmas.Option.{none-some, same_Some}
use Rattle.fixed_motion.specs.declared.disk.Disk.{Disk}
use Rattle.fixed_motion.specs.Motion.{half_of, place_of}
use Rattle.event_stamps.specs.declared.Stamp.{Stamp}
use Rattle.event_stamps.specs.Order.{Before}
use Rattle.event_rules.specs.declared.outcome.Outcome.TheVariants.{Done}
use Rattle.event_rules.specs.Events.{IsPast, IsContactTick, IsPairEvent, IsWallEvent, pair_stamp}
use Rattle.event_rules.specs.Run.{IsRun, Steps, IsCandidate, IsNext, ComesTo, effect}
use Rattle.worked_laws.specs.Rows.{disk_at}
use Rattle.worked_laws.proofs.Sides.{inside, of_two}
use Rattle.worked_laws.specs.Pair.{pair_rules, pair_disks, pair_scene, hit_stamp, the_hit, pair_end}

abbrev pub first : Disk
first = disk_at (pos 10) (pos 1) 0 0

abbrev pub second : Disk
second = disk_at (pos 20) (neg_ℤ (pos 1)) 0 0

abbrev pub first_after : Disk
first_after = disk_at (pos 13) (neg_ℤ (pos 1)) 3 1

abbrev pub second_after : Disk
second_after = disk_at (pos 17) (pos 1) 3 1

-- ---- the event
pub touches : IsContactTick pair_rules first second 3
unfolding half_of
touches = record {
  first_base = omega arith;
  second_base = omega arith;
  first_inside = record { left = omega (arith, ints); right = omega (arith, ints); bottom = omega (arith, ints); top = omega (arith, ints) };
  second_inside = record { left = omega (arith, ints); right = omega (arith, ints); bottom = omega (arith, ints); top = omega (arith, ints) };
  contact = record {
    approaching = record { apart = omega (arith, ints); approaching = omega (arith, ints) };
    crossing = omega (arith, ints);
    last = λ more. overlapping more.apart;
  };
}
  where
    overlapping : pos 0 ≤ℤ (pos 4 -ℤ pos 16) → ⊥
    overlapping h = omega (arith, ints)

pub candidate : IsCandidate pair_rules pair_disks hit_stamp
candidate = inr (omega arith, (first, refl, (second, refl, (touches, omega arith, refl))))

comes : ComesTo pair_rules pair_disks hit_stamp (Ok the_hit)
comes = (first, refl, refl)

-- ---- no others
pub no_wall_before : (i number : ℕ) (a : Disk) (s : Stamp) → slice_get pair_disks i ≡ Some a → IsWallEvent pair_rules number a s.second s → ⊥
no_wall_before zero number a s at event =
    let few : s.tick < 5 = event.1 in
    inside (pos 10) (pos 1) (s.tick + 1 - 0) s.second 0 0 (omega (arith, ints)) (omega (arith, ints))
    (subst (λ (d : Disk). IsPast pair_rules d s.second (place_of d (s.tick + 1))) (sym (same_Some _ _ at)) event.0.past)
no_wall_before (suc zero) number a s at event =
    let few : s.tick < 5 = event.1 in
    inside (pos 20) (neg_ℤ (pos 1)) (s.tick + 1 - 0) s.second 0 0 (omega (arith, ints)) (omega (arith, ints))
    (subst (λ (d : Disk). IsPast pair_rules d s.second (place_of d (s.tick + 1))) (sym (same_Some _ _ at)) event.0.past)
no_wall_before (suc (suc i)) number a s at event = absurd (none-some a at)

pub no_wall_after : (i number : ℕ) (a : Disk) (s : Stamp) → slice_get (effect pair_disks the_hit) i ≡ Some a →
    IsWallEvent pair_rules number a s.second s → ⊥
no_wall_after zero number a s at event =
    let few : s.tick < 5 = event.1 in
    inside (pos 13) (neg_ℤ (pos 1)) (s.tick + 1 - 3) s.second 3 1 (omega (arith, ints)) (omega (arith, ints))
    (subst (λ (d : Disk). IsPast pair_rules d s.second (place_of d (s.tick + 1))) (sym (same_Some _ _ at)) event.0.past)
no_wall_after (suc zero) number a s at event =
    let few : s.tick < 5 = event.1 in
    inside (pos 17) (pos 1) (s.tick + 1 - 3) s.second 3 1 (omega (arith, ints)) (omega (arith, ints))
    (subst (λ (d : Disk). IsPast pair_rules d s.second (place_of d (s.tick + 1))) (sym (same_Some _ _ at)) event.0.past)
no_wall_after (suc (suc i)) number a s at event = absurd (none-some a at)

-- the two touch at tick 3 only: before it they approach a tick later too, and after it they overlap
pub only_tick : (tick : ℕ) → tick < 5 → IsContactTick pair_rules first second tick → tick ≡ 3
unfolding half_of
only_tick zero few h = absurd (h.contact.last (record { apart = omega (arith, ints); approaching = omega (arith, ints) }))
only_tick (suc zero) few h = absurd (h.contact.last (record { apart = omega (arith, ints); approaching = omega (arith, ints) }))
only_tick (suc (suc zero)) few h = absurd (h.contact.last (record { apart = omega (arith, ints); approaching = omega (arith, ints) }))
only_tick (suc (suc (suc zero))) few h = refl
only_tick (suc (suc (suc (suc zero)))) few h = absurd (overlapping h.contact.approaching.apart)
  where
    overlapping : pos 0 ≤ℤ (pos 4 -ℤ pos 16) → ⊥
    overlapping h = omega (arith, ints)
only_tick (suc (suc (suc (suc (suc n))))) few h = absurd (omega arith)

-- after the hit they recede
pub no_tick_after : (tick : ℕ) → tick < 5 → IsContactTick pair_rules first_after second_after tick → ⊥
no_tick_after zero few h = let base : 3 ≤ 0 = h.first_base in omega arith
no_tick_after (suc zero) few h = let base : 3 ≤ 1 = h.first_base in omega arith
no_tick_after (suc (suc zero)) few h = let base : 3 ≤ 2 = h.first_base in omega arith
no_tick_after (suc (suc (suc zero))) few h = let nearing : pos 8 <ℤ pos 0 = h.contact.approaching.approaching in omega (arith, ints)
no_tick_after (suc (suc (suc (suc zero)))) few h = let nearing : pos 12 <ℤ pos 0 = h.contact.approaching.approaching in omega (arith, ints)
no_tick_after (suc (suc (suc (suc (suc n))))) few h = omega arith

only_pair : (s : Stamp) → IsPairEvent pair_rules 0 first 1 second s → s ≡ hit_stamp
only_pair s event = event.2 ∙ ap (pair_stamp 0 first 1 second) (only_tick s.tick event.1 event.0)

pub only_candidate : (s : Stamp) → IsCandidate pair_rules pair_disks s → s ≡ hit_stamp
only_candidate s (inl wall) = absurd (no_wall_before s.first s.first wall.0 s wall.1 wall.2)
only_candidate s (inr pair) = only_pair s (of_two first second s pair)

pub next : IsNext pair_rules pair_disks hit_stamp
next = (candidate, λ t h k. never (subst (λ (s : Stamp). Before s hit_stamp) (only_candidate t h) k))
  where
    never : Before hit_stamp hit_stamp → ⊥
    never h = cc

pub none_after : (s : Stamp) → IsCandidate pair_rules (effect pair_disks the_hit) s → ⊥
none_after s (inl wall) = no_wall_after s.first s.first wall.0 s wall.1 wall.2
none_after s (inr pair) = let event = of_two first_after second_after s pair in no_tick_after s.tick event.1 event.0

-- ---- the run
pub pair_run : IsRun pair_scene (the_hit ∷ []) (Done pair_end)
pair_run = (next, comes, (none_after, refl))

pub pair_steps : Steps pair_rules pair_disks (the_hit ∷ []) (effect pair_disks the_hit)
pair_steps = (next, comes, refl)
