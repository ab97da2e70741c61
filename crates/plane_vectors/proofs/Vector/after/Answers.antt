use Rattle.plane_vectors.specs.Vectors.{vector}
use Rattle.plane_vectors.proofs.Sizes.{way}
use Rattle.plane_vectors.proofs.Vector.after.Goals as goal

pub overflow_mul-result : goal.overflow_mul-result
overflow_mul-result c = (way c.args.self.x c.args.velocity.x c.args.ticks c.requires.own.x c.requires.velocity.x c.requires.ticks).way_fits

pub overflow_add-result : goal.overflow_add-result
overflow_add-result c = (way c.args.self.x c.args.velocity.x c.args.ticks c.requires.own.x c.requires.velocity.x c.requires.ticks).sum_fits

pub overflow_mul-result-2 : goal.overflow_mul-result-2
overflow_mul-result-2 c = (way c.args.self.y c.args.velocity.y c.args.ticks c.requires.own.y c.requires.velocity.y c.requires.ticks).way_fits

pub overflow_add-result-2 : goal.overflow_add-result-2
overflow_add-result-2 c = (way c.args.self.y c.args.velocity.y c.args.ticks c.requires.own.y c.requires.velocity.y c.requires.ticks).sum_fits

pub returns : goal.returns
returns c =
    let x = (way c.args.self.x c.args.velocity.x c.args.ticks c.requires.own.x c.requires.velocity.x c.requires.ticks).place in
    let y = (way c.args.self.y c.args.velocity.y c.args.ticks c.requires.own.y c.requires.velocity.y c.requires.ticks).place in
    λ i. vector (x i) (y i)
