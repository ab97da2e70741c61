-- The run of the pair beside the disk that stands, step by step from the definitions.
use Rattle.std.proofs.Common.{◌≡◌, inl, inr, ℕ, zero, suc, ◌<◌, ◌≤◌, [], ◌∷◌, Some, Ok, slice_get, refl, sym, subst, ap, ◌∙◌, arith}
use Rattle.std.specs.Prelude.{pos, ◌<ℤ◌}
use Rattle.std.proofs.lemmas.Int.{ints}
use Rattle.std.proofs.lemmas.Option.{none-some, same_Some}
use Rattle.fixed_motion.specs.declared.disk.Disk.{Disk}
use Rattle.fixed_motion.specs.Motion.{half_of}
use Rattle.event_stamps.specs.declared.Stamp.{Stamp}
use Rattle.event_stamps.specs.Order.{Before}
use Rattle.event_rules.specs.declared.outcome.Outcome.TheVariants.{Done}
use Rattle.event_rules.specs.Events.{IsContactTick, IsPairEvent, IsWallEvent, pair_stamp}
use Rattle.event_rules.specs.Run.{Runs, IsCandidate, IsPairCandidate, IsNext, ComesTo, effect}
use Rattle.event_rules.proofs.Walls.{still_no_wall}
use Rattle.worked_laws.specs.Pair.{pair_rules}
use Rattle.worked_laws.specs.Others.{standing, three_disks, hit_beside, three_end}
use Rattle.worked_laws.proofs.PairRun.{first, second, first_after, second_after, touches, no_wall_before, no_wall_after, only_tick, no_tick_after}

-- ---- the disk that stands
stands : (number : ℕ) (a : Disk) (s : Stamp) → Some standing ≡ Some a → IsWallEvent pair_rules number a s.second s → ⊥
unfolding half_of
stands number a s at event =
    still_no_wall pair_rules number standing s.second
    (record { left = omega (arith, ints); right = omega (arith, ints); bottom = omega (arith, ints); top = omega (arith, ints) }) (refl, refl) s
    (subst (λ (d : Disk). IsWallEvent pair_rules number d s.second s) (sym (same_Some _ _ at)) event)

-- one that leaves it doesn't come nearer
clear_of_first : (tick : ℕ) → tick < 5 → IsContactTick pair_rules standing first tick → ⊥
clear_of_first zero few h = let nearing : pos 0 <ℤ pos 0 = h.contact.approaching.approaching in omega (arith, ints)
clear_of_first (suc zero) few h = let nearing : pos 1 <ℤ pos 0 = h.contact.approaching.approaching in omega (arith, ints)
clear_of_first (suc (suc zero)) few h = let nearing : pos 2 <ℤ pos 0 = h.contact.approaching.approaching in omega (arith, ints)
clear_of_first (suc (suc (suc zero))) few h = let nearing : pos 3 <ℤ pos 0 = h.contact.approaching.approaching in omega (arith, ints)
clear_of_first (suc (suc (suc (suc zero)))) few h = let nearing : pos 4 <ℤ pos 0 = h.contact.approaching.approaching in omega (arith, ints)
clear_of_first (suc (suc (suc (suc (suc n))))) few h = omega arith

-- and one that comes nearer passes at a distance of 6
clear_of_second : (tick : ℕ) → tick < 5 → IsContactTick pair_rules standing second tick → ⊥
unfolding half_of
clear_of_second zero few h = let crossing : pos 120 <ℤ pos 100 = h.contact.crossing in omega (arith, ints)
clear_of_second (suc zero) few h = let crossing : pos 101 <ℤ pos 81 = h.contact.crossing in omega (arith, ints)
clear_of_second (suc (suc zero)) few h = let crossing : pos 84 <ℤ pos 64 = h.contact.crossing in omega (arith, ints)
clear_of_second (suc (suc (suc zero))) few h = let crossing : pos 69 <ℤ pos 49 = h.contact.crossing in omega (arith, ints)
clear_of_second (suc (suc (suc (suc zero)))) few h = let crossing : pos 56 <ℤ pos 36 = h.contact.crossing in omega (arith, ints)
clear_of_second (suc (suc (suc (suc (suc n))))) few h = omega arith

clear_of_first_after : (tick : ℕ) → tick < 5 → IsContactTick pair_rules standing first_after tick → ⊥
unfolding half_of
clear_of_first_after (suc (suc (suc zero))) few h = let crossing : pos 29 <ℤ pos 9 = h.contact.crossing in omega (arith, ints)
clear_of_first_after (suc (suc (suc (suc zero)))) few h = let crossing : pos 24 <ℤ pos 4 = h.contact.crossing in omega (arith, ints)
clear_of_first_after tick few h = let base : 3 ≤ tick = h.second_base in omega arith

clear_of_second_after : (tick : ℕ) → tick < 5 → IsContactTick pair_rules standing second_after tick → ⊥
clear_of_second_after (suc (suc (suc zero))) few h = let nearing : pos 7 <ℤ pos 0 = h.contact.approaching.approaching in omega (arith, ints)
clear_of_second_after (suc (suc (suc (suc zero)))) few h = let nearing : pos 8 <ℤ pos 0 = h.contact.approaching.approaching in omega (arith, ints)
clear_of_second_after tick few h = let base : 3 ≤ tick = h.second_base in omega arith

-- ---- of three disks, the first of which hits no other, an event is of 1 and 2
of_last_two : (a b : Disk) (s : Stamp) → ((tick : ℕ) → tick < 5 → IsContactTick pair_rules standing a tick → ⊥) →
    ((tick : ℕ) → tick < 5 → IsContactTick pair_rules standing b tick → ⊥) → IsPairCandidate pair_rules (standing ∷ a ∷ b ∷ []) s →
    IsPairEvent pair_rules 1 a 2 b s
of_last_two a b s clear_of_a clear_of_b h = by_numbers s.first s.second h.0 h.1.1 h.1.2.1 h.1.2.2
  where
    by_numbers : (i j : ℕ) → i < j → slice_get (standing ∷ a ∷ b ∷ []) i ≡ Some h.1.0 → slice_get (standing ∷ a ∷ b ∷ []) j ≡ Some h.1.2.0 →
        IsPairEvent pair_rules i h.1.0 j h.1.2.0 s → IsPairEvent pair_rules 1 a 2 b s
    by_numbers i zero less at other event = absurd (omega arith)
    by_numbers zero (suc zero) less at other event = absurd (clear_of_a s.tick event.1
        (subst (λ (d : Disk). IsContactTick pair_rules d a s.tick) (sym (same_Some _ _ at))
        (subst (λ (d : Disk). IsContactTick pair_rules h.1.0 d s.tick) (sym (same_Some _ _ other)) event.0)))
    by_numbers zero (suc (suc zero)) less at other event = absurd (clear_of_b s.tick event.1
        (subst (λ (d : Disk). IsContactTick pair_rules d b s.tick) (sym (same_Some _ _ at))
        (subst (λ (d : Disk). IsContactTick pair_rules h.1.0 d s.tick) (sym (same_Some _ _ other)) event.0)))
    by_numbers (suc zero) (suc (suc zero)) less at other event =
        subst (λ (d : Disk). IsPairEvent pair_rules 1 d 2 b s) (sym (same_Some _ _ at))
        (subst (λ (d : Disk). IsPairEvent pair_rules 1 h.1.0 2 d s) (sym (same_Some _ _ other)) event)
    by_numbers i (suc (suc (suc j))) less at other event = absurd (none-some h.1.2.0 other)
    by_numbers (suc i) (suc zero) less at other event = absurd (omega arith)
    by_numbers (suc (suc i)) (suc (suc zero)) less at other event = absurd (omega arith)

-- ---- the run
only_beside : (s : Stamp) → IsCandidate pair_rules three_disks s → s ≡ hit_beside.stamp
only_beside s (inl wall) = absurd (by_number s.first wall.1)
  where
    by_number : (i : ℕ) → slice_get three_disks i ≡ Some wall.0 → ⊥
    by_number zero at = stands s.first wall.0 s at wall.2
    by_number (suc i) at = no_wall_before i s.first wall.0 s at wall.2
only_beside s (inr pair) =
    let event = of_last_two first second s clear_of_first clear_of_second pair in
    event.2 ∙ ap (pair_stamp 1 first 2 second) (only_tick s.tick event.1 event.0)

next : IsNext pair_rules three_disks hit_beside.stamp
next = (
  inr (omega arith, (first, refl, (second, refl, (touches, omega arith, refl)))),
  λ t h k. never (subst (λ (s : Stamp). Before s hit_beside.stamp) (only_beside t h) k),
)
  where
    never : Before hit_beside.stamp hit_beside.stamp → ⊥
    never h = cc

comes : ComesTo pair_rules three_disks hit_beside.stamp (Ok hit_beside)
comes = (first, refl, refl)

none_left : (s : Stamp) → IsCandidate pair_rules (effect three_disks hit_beside) s → ⊥
none_left s (inl wall) = by_number s.first wall.1
  where
    by_number : (i : ℕ) → slice_get (effect three_disks hit_beside) i ≡ Some wall.0 → ⊥
    by_number zero at = stands s.first wall.0 s at wall.2
    by_number (suc i) at = no_wall_after i s.first wall.0 s at wall.2
none_left s (inr pair) =
    let event = of_last_two first_after second_after s clear_of_first_after clear_of_second_after pair in
    no_tick_after s.tick event.1 event.0

pub three_run : Runs pair_rules three_disks (hit_beside ∷ []) (Done three_end)
three_run = (next, comes, (none_left, refl))
