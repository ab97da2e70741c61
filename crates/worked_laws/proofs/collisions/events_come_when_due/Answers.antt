-- The two touch from tick 3 on only, and the other disk is inside at tick 0 only.
use Rattle.std.proofs.Common.{ℕ, zero, suc, Some, slice_get, ◌+◌, ◌≡◌, inl, inr, [], subst, sym, ◌∙◌}
use Rattle.std.proofs.lemmas.Option.{none-some, same_Some}
use Rattle.fixed_motion.specs.declared.disk.Disk.{Disk}
use Rattle.fixed_motion.specs.Motion.{place_of}
use Rattle.event_stamps.specs.declared.Stamp.{Stamp}
use Rattle.event_stamps.specs.declared.Kind.{Kind}
use Rattle.event_stamps.specs.declared.Kind.TheVariants.{Wall, Pair}
use Rattle.event_rules.specs.Events.{IsPast, IsWallTick}
use Rattle.real_collisions.specs.Laws.{IsReal}
use Rattle.real_collisions.specs.Touching.{TouchFrom}
use Rattle.worked_laws.specs.Rows.{box_until}
use Rattle.worked_laws.specs.Bounce.{bounce_disks}
use Rattle.worked_laws.proofs.BounceRun.{bouncer, only_tick, only_side}
use Rattle.worked_laws.specs.Pair.{pair_rules, pair_disks}
use Rattle.worked_laws.proofs.PairRun.{first, second}
use Rattle.worked_laws.proofs.Sides.{both}
use Rattle.worked_laws.proofs.Near.{only_touch}
use Rattle.worked_laws.proofs.collisions.events_come_when_due.Goals as goal

two_kinds : ◌≡◌ {A = Kind} Wall Pair → ⊥
two_kinds e = cc

at_three : (s : Stamp) → IsReal pair_rules pair_disks s → s.kind ≡ Pair → s.tick ≡ 3
at_three s (inl bounce) pair = absurd (two_kinds (sym bounce.kind ∙ pair))
at_three s (inr collision) pair =
    let same = both first second collision.first collision.second s.first s.second collision.order collision.first_at collision.second_at in
    only_touch s.tick
    (subst (λ (a : Disk). TouchFrom a second s.tick) same.0 (subst (λ (b : Disk). TouchFrom collision.first b s.tick) same.1 collision.touch))

pub returns-clause-pair : goal.returns-clause-pair
returns-clause-pair c change after outcome run pair =
    at_three change.stamp (c.events_are_real.ensures pair_rules pair_disks [] after change outcome run) pair

at_once : (s : Stamp) → IsReal (box_until 5) bounce_disks s → s.kind ≡ Wall → (s.tick ≡ 0) × (s.second ≡ 1)
at_once s (inl bounce) wall = by_number s.first bounce.at
  where
    by_number : (i : ℕ) → slice_get bounce_disks i ≡ Some bounce.disk → (s.tick ≡ 0) × (s.second ≡ 1)
    by_number zero at =
        let passes = subst (λ (a : Disk). IsWallTick (box_until 5) a s.second s.tick) (sym (same_Some _ _ at)) bounce.passes in
        let tick = only_tick s.second s.tick passes in
        (tick, only_side s.second (subst (λ (n : ℕ). IsPast (box_until 5) bouncer s.second (place_of bouncer (n + 1))) tick passes.past))
    by_number (suc i) at = absurd (none-some bounce.disk at)
at_once s (inr collision) wall = absurd (two_kinds (sym wall ∙ collision.kind))

pub returns-clause-side : goal.returns-clause-side
returns-clause-side c change after outcome run wall =
    at_once change.stamp (c.events_are_real.ensures (box_until 5) bounce_disks [] after change outcome run) wall
