-- An impulse that is less than a unit from (-2, 0) is that one.
use Rattle.std.proofs.Common.{slice_get, subst, sym, ◌≡◌, inl, inr, ◌⊎◌, ℕ, [], Some, ap, ◌∙◌, arith}
use Rattle.std.specs.Prelude.{pos, neg_ℤ, ◌+ℤ◌, nat_abs, ◌*ℤ◌, ◌<◌}
use Rattle.std.proofs.lemmas.Int.{ints}
use Rattle.std.proofs.lemmas.Option.{same_Some}
use Rattle.plane_vectors.specs.declared.Vector.{Vector}
use Rattle.plane_vectors.specs.Vectors.{vector, sum, difference}
use Rattle.fixed_motion.specs.declared.disk.Disk.{Disk}
use Rattle.fixed_motion.specs.Motion.{place_of, velocity_of}
use Rattle.event_stamps.specs.declared.Stamp.{Stamp}
use Rattle.event_rules.specs.declared.change.Change.{Change}
use Rattle.event_rules.specs.Effect.{turned}
use Rattle.real_collisions.specs.Elastic.{IsWithinOne}
use Rattle.real_collisions.specs.Laws.{IsElasticBounce, IsElasticCollision}
use Rattle.worked_laws.specs.Rows.{box_until}
use Rattle.worked_laws.specs.Bounce.{bounce_disks, bounce_stamp}
use Rattle.worked_laws.specs.Pair.{pair_rules, pair_disks, hit_stamp}
use Rattle.worked_laws.proofs.PairRun.{first, second}
use Rattle.worked_laws.proofs.Hit.{no_bounce, no_collision, is_first, is_second, carried}
use Rattle.worked_laws.proofs.collisions.events_turn_velocities.Goals as goal

-- the impulse is exact
exactly : (j : Vector) → IsWithinOne (vector (neg_ℤ (pos 4)) (pos 0)) (vector (pos 2) (pos 0)) j → j ≡ vector (neg_ℤ (pos 2)) (pos 0)
exactly j near = λ i. vector (x near.0 i) (y near.1 i)
  where
    x : nat_abs ((pos 16 *ℤ j.x) +ℤ pos 32) < 16 → j.x ≡ neg_ℤ (pos 2)
    x h = omega (arith, ints)

    y : nat_abs ((pos 16 *ℤ j.y) +ℤ pos 0) < 16 → j.y ≡ pos 0
    y h = omega (arith, ints)

abbrev Swaps : Change → Type 0
Swaps c = (velocity_of c.first ≡ vector (neg_ℤ (pos 1)) (pos 0))
    × ((later : Disk) × (c.second ≡ Some later) × (velocity_of later ≡ vector (pos 1) (pos 0)))

swaps : (c : Change) → c.stamp ≡ hit_stamp → IsElasticBounce pair_disks c ⊎ IsElasticCollision pair_disks c → Swaps c
swaps c same (inl bounce) = absurd (no_bounce c same bounce)
swaps c same (inr hit) = (hit.first_goes_on.velocity_after ∙ pushed, (hit.later, hit.second_later, hit.second_goes_on.velocity_after ∙ pushed_back))
  where
    impulse : hit.impulse ≡ vector (neg_ℤ (pos 2)) (pos 0)
    impulse = exactly hit.impulse
        (carried (λ (a : Disk) (b : Disk) (n : ℕ). IsWithinOne (difference (place_of a n) (place_of b n)) (difference (velocity_of a) (velocity_of b)) hit.impulse)
        hit.first hit.second first second c.stamp.tick 3 (is_first c hit same) (is_second c hit same) (ap (λ (s : Stamp). s.tick) same) hit.elastic.one)

    pushed : sum (velocity_of hit.first) hit.impulse ≡ vector (neg_ℤ (pos 1)) (pos 0)
    pushed = ap (λ (a : Disk). sum (velocity_of a) hit.impulse) (is_first c hit same) ∙ ap (sum (velocity_of first)) impulse

    pushed_back : difference (velocity_of hit.second) hit.impulse ≡ vector (pos 1) (pos 0)
    pushed_back = ap (λ (b : Disk). difference (velocity_of b) hit.impulse) (is_second c hit same) ∙ ap (difference (velocity_of second)) impulse

pub returns-clause-pair : goal.returns-clause-pair
returns-clause-pair c change after outcome run same =
    swaps change same (c.events_are_elastic.ensures pair_rules pair_disks [] after change outcome run)

turns : (c : Change) → c.stamp ≡ bounce_stamp → IsElasticBounce bounce_disks c ⊎ IsElasticCollision bounce_disks c →
    velocity_of c.first ≡ vector (neg_ℤ (pos 2)) (pos 0)
turns c same (inl bounce) =
    let at : slice_get bounce_disks 0 ≡ Some bounce.disk = subst (λ (s : Stamp). slice_get bounce_disks s.first ≡ Some bounce.disk) same bounce.at in
    bounce.goes_on.velocity_after ∙ ap (λ (s : Stamp). turned s.second (velocity_of bounce.disk)) same
    ∙ ap (λ (a : Disk). turned 1 (velocity_of a)) (sym (same_Some _ _ at))
turns c same (inr hit) = absurd (no_collision c same hit)

pub returns-clause-side : goal.returns-clause-side
returns-clause-side c change after outcome run same =
    turns change same (c.events_are_elastic.ensures (box_until 5) bounce_disks [] after change outcome run)
