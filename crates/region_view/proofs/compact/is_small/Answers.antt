use Rattle.std.proofs.lemmas.Bool.{both_ways}
use Rattle.region_view.proofs.compact.is_small.Goals as goal

pub returns-then-has_small_course : goal.returns-then-has_small_course
returns-then-has_small_course c = (λ yes. record { course = c.has_small_course.ensures.0 c.if-has_small_course.true; time = c.has_small_time.ensures.0 yes }, λ small. c.has_small_time.ensures.1 small.time)

pub returns-else-has_small_course : goal.returns-else-has_small_course
returns-else-has_small_course c = (λ yes. absurd (both_ways _ c.if-has_small_course.false yes), λ small. c.has_small_course.ensures.1 small.course)
