-- No number loses anything.
use Rattle.region_view.proofs.CompactRows.{narrowed, row_again, is_packed}
use Rattle.region_view.proofs.compact.Compact.some.Goals as goal

pub invariant_of-result : goal.invariant_of-result
invariant_of-result c =
    let p = c.args.row.now in
    let small = c.requires.small in
    rw (
      narrowed p.disk.x small.course.centre.0,
      narrowed p.disk.y small.course.centre.1,
      narrowed p.disk.vx small.course.velocity.0,
      narrowed p.disk.vy small.course.velocity.1,
      narrowed p.disk.size small.course.size,
    ) (is_packed p small)

pub returns : goal.returns
returns c =
    let p = c.args.row.now in
    let small = c.requires.small in
    rw (
      narrowed p.disk.x small.course.centre.0,
      narrowed p.disk.y small.course.centre.1,
      narrowed p.disk.vx small.course.velocity.0,
      narrowed p.disk.vy small.course.velocity.1,
      narrowed p.disk.size small.course.size,
    ) (row_again p small)
