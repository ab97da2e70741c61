-- The bounce is the next event of its row, step by step from the definitions.
use Rattle.std.proofs.Common.{◌≡◌, inl, inr, ℕ, zero, suc, ◌+◌, ◌-◌, ◌<◌, [], ◌∷◌, Some, Ok, slice_get, refl, sym, subst, ap, ◌∙◌, arith}
use Rattle.std.specs.Prelude.{pos, ◌+ℤ◌, ◌-ℤ◌, ◌*ℤ◌, ◌≤ℤ◌, ◌<ℤ◌}
use Rattle.std.proofs.lemmas.Int.{ints}
use Rattle.std.proofs.lemmas.Option.{none-some, same_Some}
use Rattle.fixed_motion.specs.declared.disk.Disk.{Disk}
use Rattle.fixed_motion.specs.Motion.{half_of, place_of}
use Rattle.event_stamps.specs.declared.Stamp.{Stamp}
use Rattle.event_stamps.specs.Order.{Before}
use Rattle.event_rules.specs.Events.{IsPast, IsWallTick, IsWallEvent, wall_stamp}
use Rattle.event_rules.specs.Run.{Steps, IsCandidate, IsNext, ComesTo, effect}
use Rattle.worked_laws.specs.Rows.{box_until, disk_at}
use Rattle.worked_laws.specs.Bounce.{bounce_disks, bounce_stamp, the_bounce}

abbrev pub bouncer : Disk
bouncer = disk_at (pos 37) (pos 2) 0 0

candidate : IsCandidate (box_until 5) bounce_disks bounce_stamp
unfolding half_of
candidate = inl (
  bouncer,
  refl,
  (
    record {
      base = omega arith;
      inside = record { left = omega (arith, ints); right = omega (arith, ints); bottom = omega (arith, ints); top = omega (arith, ints) };
      past = inr (inl (refl, omega (arith, ints)));
    },
    omega arith,
    refl,
  ),
)

-- it is inside at tick 0 only
pub only_tick : (side tick : ℕ) → IsWallTick (box_until 5) bouncer side tick → tick ≡ 0
unfolding half_of
only_tick side tick h = let most : (pos 37 +ℤ (pos 2 *ℤ pos (tick - 0))) ≤ℤ (pos 40 -ℤ pos 2) = h.inside.right in omega (arith, ints)

-- and then past the right side
pub only_side : (side : ℕ) → IsPast (box_until 5) bouncer side (place_of bouncer 1) → side ≡ 1
unfolding half_of
only_side side (inl h) = let k : pos 39 <ℤ pos 2 = h.1 in absurd (omega (arith, ints))
only_side side (inr (inl h)) = h.0
only_side side (inr (inr (inl h))) = let k : pos 10 <ℤ pos 2 = h.1 in absurd (omega (arith, ints))
only_side side (inr (inr (inr h))) = let k : pos 18 <ℤ pos 10 = h.1 in absurd (omega (arith, ints))

only_bounce : (s : Stamp) → IsWallEvent (box_until 5) 0 bouncer s.second s → s ≡ bounce_stamp
only_bounce s event =
    let tick = only_tick s.second s.tick event.0 in
    let side = only_side s.second (subst (λ (n : ℕ). IsPast (box_until 5) bouncer s.second (place_of bouncer (n + 1))) tick event.0.past) in
    (event.2 ∙ ap (wall_stamp 0 bouncer s.second) tick) ∙ ap (λ (n : ℕ). wall_stamp 0 bouncer n 0) side

only_candidate : (s : Stamp) → IsCandidate (box_until 5) bounce_disks s → s ≡ bounce_stamp
only_candidate s (inl wall) = by_number s.first wall.1 wall.2
  where
    by_number : (i : ℕ) → slice_get bounce_disks i ≡ Some wall.0 → IsWallEvent (box_until 5) i wall.0 s.second s → s ≡ bounce_stamp
    by_number zero at event =
        only_bounce s (subst (λ (d : Disk). IsWallEvent (box_until 5) 0 d s.second s) (sym (same_Some _ _ at)) event)
    by_number (suc i) at event = absurd (none-some wall.0 at)
only_candidate s (inr pair) = by_number s.second pair.0 pair.1.2.1
  where
    by_number : (j : ℕ) → s.first < j → slice_get bounce_disks j ≡ Some pair.1.2.0 → s ≡ bounce_stamp
    by_number zero less at = absurd (omega arith)
    by_number (suc j) less at = absurd (none-some pair.1.2.0 at)

next : IsNext (box_until 5) bounce_disks bounce_stamp
next = (candidate, λ t h k. never (subst (λ (s : Stamp). Before s bounce_stamp) (only_candidate t h) k))
  where
    never : Before bounce_stamp bounce_stamp → ⊥
    never h = cc

comes : ComesTo (box_until 5) bounce_disks bounce_stamp (Ok the_bounce)
comes = (bouncer, refl, refl)

pub bounces : Steps (box_until 5) bounce_disks (the_bounce ∷ []) (effect bounce_disks the_bounce)
bounces = (next, comes, refl)
