-- Differences of places in the box are at most 2^30 in each component.
use Rattle.std.proofs.Common.{◌≡◌, ◌∙◌, ◌≤◌, ◌^◌, nat_abs, arith}
use Rattle.std.proofs.lemmas.Int.{ints}
use Rattle.plane_vectors.specs.declared.Vector.{Vector}
use Rattle.plane_vectors.specs.Vectors.{vector, difference, IsWithin}
use Rattle.plane_vectors.proofs.Sizes.{sent}
use Rattle.fixed_motion.specs.Motion.{IsInBox}
use Rattle.fixed_motion.proofs.Sizes.{difference_size, in_box_sent, within_more}
use Rattle.fixed_motion.proofs.Places.{square_sent, test_sent, overlap_tested}
use Rattle.fixed_motion.proofs.disk.overlap.Goals as goal

-- the code's difference of two places
between_is : (p q r : Vector) → IsInBox p → IsInBox q → r ≡ difference (vector (sent p.x) (sent p.y)) (vector (sent q.x) (sent q.y)) → r ≡ difference p q
between_is p q r h k e = e ∙ (λ i. difference (in_box_sent p h i) (in_box_sent q k i))

between_size : (p q r : Vector) → IsInBox p → IsInBox q → r ≡ difference p q → IsWithin (2 ^ 30) r
between_size p q r h k e = rw e (difference_size p q h k)

pub dot-requires-clause-own : goal.dot-requires-clause-own
dot-requires-clause-own c =
    let p = vector c.args.first.0 c.args.first.1 in
    let q = vector c.args.second.0 c.args.second.1 in
    let r = c.minus-between.result in
    within_more (2 ^ 30) 2147483647 r (omega arith)
    (between_size p q r c.requires.first c.requires.second (between_is p q r c.requires.first c.requires.second c.minus-between.ensures))

pub dot-requires-clause-other : goal.dot-requires-clause-other
dot-requires-clause-other c = dot-requires-clause-own c

pub overflow_mul-result : goal.overflow_mul-result
overflow_mul-result c =
    let least = c.requires.least in
    let most = c.requires.most in
    let size : nat_abs c.args.distance ≤ 2 ^ 30 = omega (arith, ints) in
    (square_sent c.args.distance size).0

pub returns-clause-test : goal.returns-clause-test
returns-clause-test c =
    let p = vector c.args.first.0 c.args.first.1 in
    let q = vector c.args.second.0 c.args.second.1 in
    let r = c.minus-between.result in
    let least = c.requires.least in
    let most = c.requires.most in
    let size : nat_abs c.args.distance ≤ 2 ^ 30 = omega (arith, ints) in
    let is = between_is p q r c.requires.first c.requires.second c.minus-between.ensures in
    test_sent c.args.distance c.dot.result p q r size (between_size p q r c.requires.first c.requires.second is) is c.dot.ensures.value

pub returns-clause-fact : goal.returns-clause-fact
returns-clause-fact c =
    overlap_tested c.args.distance (vector c.args.first.0 c.args.first.1) (vector c.args.second.0 c.args.second.1) _ (returns-clause-test c)
