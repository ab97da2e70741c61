use Rattle.plane_vectors.specs.Vectors.{vector}
use Rattle.plane_vectors.proofs.Sizes.{difference_exact}
use Rattle.plane_vectors.proofs.Vector.minus.Goals as goal

pub overflow_sub-result : goal.overflow_sub-result
overflow_sub-result c = (difference_exact c.args.self.x c.args.other.x c.requires.own.x c.requires.other.x).fits

pub overflow_sub-result-2 : goal.overflow_sub-result-2
overflow_sub-result-2 c = (difference_exact c.args.self.y c.args.other.y c.requires.own.y c.requires.other.y).fits

pub returns : goal.returns
returns c =
    let x = (difference_exact c.args.self.x c.args.other.x c.requires.own.x c.requires.other.x).value in
    let y = (difference_exact c.args.self.y c.args.other.y c.requires.own.y c.requires.other.y).value in
    λ i. vector (x i) (y i)
