-- The quadratic of disks that are inside the box tells whether they are in contact.
use Rattle.std.proofs.Common.{◌≡◌, refl, arith}
use Rattle.plane_vectors.specs.Vectors.{difference}
use Rattle.fixed_motion.specs.Motion.{velocity_of, contact_distance}
use Rattle.fixed_motion.proofs.Sizes.{inside_in_box, in_box_size, slow_size, within_more}
use Rattle.event_rules.specs.Pairs.{IsValidPair}
use Rattle.event_rules.proofs.Separations.{distance_size, small_same}
use Rattle.event_rules.proofs.Approaches.{inside_approach}
use Rattle.event_rules.proofs.pair_events.touch_at.Goals as goal

pub minus-places-requires-clause-own : goal.minus-places-requires-clause-own
minus-places-requires-clause-own c = within_more 1073741824 4611686018427387903 c.args.p (omega arith)
    (in_box_size c.args.p (inside_in_box c.args.rules.now c.args.a.now c.args.p c.requires.checked c.requires.first_valid.size c.requires.first_inside))

pub minus-places-requires-clause-other : goal.minus-places-requires-clause-other
minus-places-requires-clause-other c = within_more 1073741824 4611686018427387903 c.args.q (omega arith)
    (in_box_size c.args.q (inside_in_box c.args.rules.now c.args.b.now c.args.q c.requires.checked c.requires.second_valid.size c.requires.second_inside))

pub minus-velocities-requires-clause-own : goal.minus-velocities-requires-clause-own
minus-velocities-requires-clause-own c = rw c.velocity.ensures (within_more 1048576 4611686018427387903 (velocity_of c.args.a.now) (omega arith)
    (slow_size c.args.rules.now (velocity_of c.args.a.now) c.requires.checked c.requires.first_valid.velocity))

pub minus-velocities-requires-clause-other : goal.minus-velocities-requires-clause-other
minus-velocities-requires-clause-other c = rw c.velocity-2.ensures (within_more 1048576 4611686018427387903 (velocity_of c.args.b.now) (omega arith)
    (slow_size c.args.rules.now (velocity_of c.args.b.now) c.requires.checked c.requires.second_valid.velocity))

pub returns : goal.returns
returns c =
    let rules = c.args.rules.now in
    let a = c.args.a.now in
    let b = c.args.b.now in
    let d = contact_distance a b in
    let pair : IsValidPair rules a b =
    record { checked = c.requires.checked; first = c.requires.first_valid; second = c.requires.second_valid } in
    let u : c.minus-velocities.result ≡ difference (velocity_of a) (velocity_of b) =
    rw (c.velocity.ensures, c.velocity-2.ensures) at c.minus-velocities.ensures in
    let told = rw (c.minus-places.ensures, u, c.distance_between-distance.ensures rules pair, small_same d (distance_size rules a b pair)) at c.new.ensures in
    let are = inside_approach rules a b c.args.p c.args.q (difference (velocity_of a) (velocity_of b)) c.new.result pair
    c.requires.first_inside c.requires.second_inside refl told in
    c.is_contact.ensures are.1 (difference c.args.p c.args.q) (difference (velocity_of a) (velocity_of b)) d are.0
