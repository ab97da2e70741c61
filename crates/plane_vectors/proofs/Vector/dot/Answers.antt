use Rattle.plane_vectors.proofs.Sizes.{dot_exact, dot_size}
use Rattle.plane_vectors.proofs.Vector.dot.Goals as goal

pub overflow_mul-result : goal.overflow_mul-result
overflow_mul-result c = (dot_exact c.args.self c.args.other c.requires.own c.requires.other).first_fits

pub overflow_mul-result-2 : goal.overflow_mul-result-2
overflow_mul-result-2 c = (dot_exact c.args.self c.args.other c.requires.own c.requires.other).second_fits

pub overflow_add-result : goal.overflow_add-result
overflow_add-result c = (dot_exact c.args.self c.args.other c.requires.own c.requires.other).fits

pub returns-clause-value : goal.returns-clause-value
returns-clause-value c = (dot_exact c.args.self c.args.other c.requires.own c.requires.other).value

pub returns-clause-size : goal.returns-clause-size
returns-clause-size c = rw (returns-clause-value c) (dot_size c.args.self c.args.other)
