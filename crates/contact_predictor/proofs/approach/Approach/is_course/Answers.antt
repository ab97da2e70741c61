-- The products fit 128 bits.
use Rattle.std.proofs.Common.{rules}
use Rattle.contact_predictor.proofs.Course.{course_told}
use Rattle.contact_predictor.proofs.approach.Approach.is_course.Goals as goal

pub returns : goal.returns
returns c =
    course_told c.args.self c.from.result c.from-2.result c.from-3.result c.from-4.result (search rules) (search rules) (search rules)
    c.from.ensures c.from-2.ensures c.from-3.ensures c.from-4.ensures
