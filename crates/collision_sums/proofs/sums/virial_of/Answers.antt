-- Differences of places in the box are at most 2^30 in each component.
use Rattle.std.proofs.Common.{◌≡◌, ◌∙◌, ◌^◌, arith, subst, sym}
use Rattle.plane_vectors.specs.Vectors.{difference, IsWithin}
use Rattle.fixed_motion.specs.Motion.{centre_of}
use Rattle.fixed_motion.proofs.Sizes.{difference_size, within_more}
use Rattle.collision_sums.proofs.sums.virial_of.Goals as goal

pub dot-requires-clause-own : goal.dot-requires-clause-own
dot-requires-clause-own c =
    let p = centre_of c.args.first.now in let q = centre_of c.args.second.now in
    let is : c.minus-apart.result ≡ difference p q =
    c.minus-apart.ensures ∙ (λ i. difference (c.centre.ensures i) (c.centre-2.ensures i)) in
    subst (IsWithin 2147483647) (sym is)
    (within_more (2 ^ 30) 2147483647 (difference p q) (omega arith) (difference_size p q c.requires.first.centre c.requires.second.centre))
