-- The difference of two small numbers is exact.
use Rattle.cell_grid.proofs.Courses.{difference_sent, difference_fits, up_or_not}
use Rattle.cell_grid.proofs.bounds.Bounds.length_ahead.Goals as goal

pub overflow_sub-result : goal.overflow_sub-result
overflow_sub-result c =
    difference_fits c.args.self.greatest c.args.course.start c.requires.small.greatest c.requires.slow.start

pub overflow_sub-result-else-course-gt0 : goal.overflow_sub-result-else-course-gt0
overflow_sub-result-else-course-gt0 c =
    difference_fits c.args.course.start c.args.self.least c.requires.slow.start c.requires.small.least

pub returns-then-course-gt0-clause-rising : goal.returns-then-course-gt0-clause-rising
returns-then-course-gt0-clause-rising c = λ up.
    difference_sent c.args.self.greatest c.args.course.start c.requires.small.greatest c.requires.slow.start

pub returns-then-course-gt0-clause-falling : goal.returns-then-course-gt0-clause-falling
returns-then-course-gt0-clause-falling c = λ down.
    absurd ((up_or_not c.args.course.velocity c.requires.slow.velocity).0 c.if-course-gt0.true down)

pub returns-else-course-gt0-clause-rising : goal.returns-else-course-gt0-clause-rising
returns-else-course-gt0-clause-rising c = λ up.
    absurd ((up_or_not c.args.course.velocity c.requires.slow.velocity).1 c.if-course-gt0.false up)

pub returns-else-course-gt0-clause-falling : goal.returns-else-course-gt0-clause-falling
returns-else-course-gt0-clause-falling c = λ down.
    difference_sent c.args.course.start c.args.self.least c.requires.slow.start c.requires.small.least
