use Rattle.std.proofs.Common.{arith, ◌^◌, ◌-◌, ◌∙◌}
use Rattle.plane_vectors.specs.Vectors.{after}
use Rattle.fixed_motion.specs.Motion.{centre_of, velocity_of}
use Rattle.fixed_motion.proofs.Sizes.{inside_in_box, in_box_size, slow_size, within_more}
use Rattle.fixed_motion.proofs.disk.Disk.centre_at.Goals as goal

pub after-requires-clause-own : goal.after-requires-clause-own
after-requires-clause-own c =
    let box = c.args.rules.now in
    let a = c.args.self.now in
    rw c.centre.ensures (within_more (2 ^ 30) (2 ^ 31) (centre_of a) (omega arith)
    (in_box_size (centre_of a) (inside_in_box box a (centre_of a) c.requires.checked c.requires.valid.size c.requires.valid.centre)))

pub after-requires-clause-velocity : goal.after-requires-clause-velocity
after-requires-clause-velocity c =
    let box = c.args.rules.now in
    let a = c.args.self.now in
    rw c.velocity.ensures (within_more (2 ^ 20) (2 ^ 21) (velocity_of a) (omega arith) (slow_size box (velocity_of a) c.requires.checked c.requires.valid.velocity))

pub returns : goal.returns
returns c =
    c.after.ensures ∙ (λ i. after (c.centre.ensures i) (c.velocity.ensures i) (c.args.tick - c.args.self.now.base))
