use Rattle.plane_vectors.specs.Vectors.{vector}
use Rattle.plane_vectors.proofs.Sizes.{sum_exact}
use Rattle.plane_vectors.proofs.Vector.plus.Goals as goal

pub overflow_add-result : goal.overflow_add-result
overflow_add-result c = (sum_exact c.args.self.x c.args.other.x c.requires.own.x c.requires.other.x).fits

pub overflow_add-result-2 : goal.overflow_add-result-2
overflow_add-result-2 c = (sum_exact c.args.self.y c.args.other.y c.requires.own.y c.requires.other.y).fits

pub returns : goal.returns
returns c =
    let x = (sum_exact c.args.self.x c.args.other.x c.requires.own.x c.requires.other.x).value in
    let y = (sum_exact c.args.self.y c.args.other.y c.requires.own.y c.requires.other.y).value in
    λ i. vector (x i) (y i)
