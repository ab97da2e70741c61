use Rattle.std.proofs.Common.{◌↔◌, ◌∙◌, ◌^◌, IsTrue, subst, arith}
use Rattle.plane_vectors.specs.declared.Vector.{Vector}
use Rattle.plane_vectors.specs.Vectors.{after}
use Rattle.fixed_motion.specs.Motion.{centre_of, velocity_of}
use Rattle.fixed_motion.proofs.Sizes.{within_more}
use Rattle.cell_grid.specs.Leaving.{IsInRoom}
use Rattle.cell_grid.proofs.room.Room.holds_after.Goals as goal

pub after-requires-clause-own : goal.after-requires-clause-own
after-requires-clause-own c =
    let a = c.args.a.now in
    rw c.centre.ensures (within_more (2 ^ 30) (2 ^ 31) (centre_of a) (omega arith) c.requires.slow.centre)

pub after-requires-clause-velocity : goal.after-requires-clause-velocity
after-requires-clause-velocity c =
    let a = c.args.a.now in
    rw c.velocity.ensures (within_more (2 ^ 20) (2 ^ 21) (velocity_of a) (omega arith) c.requires.slow.velocity)

pub returns : goal.returns
returns c =
    subst (λ (place : Vector). IsTrue c.holds.result ↔ IsInRoom c.args.self place)
    (c.after.ensures ∙ (λ i. after (c.centre.ensures i) (c.velocity.ensures i) c.args.ticks)) c.holds.ensures
