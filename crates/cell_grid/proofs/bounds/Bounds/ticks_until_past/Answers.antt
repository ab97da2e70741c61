-- The coordinate is past the bound after as many ticks as it takes to go there, and one more.
use Rattle.std.proofs.Common.{◌≡◌, ℕ, ◌^◌, ◌≤◌, ℤ, nat_abs, w64, FitsSigned, arith}
use Rattle.std.proofs.lemmas.Int.{ints}
use Rattle.plane_vectors.proofs.Sizes.{sent, sent_same}
use mir.Val.{Fits}
use Rattle.cell_grid.proofs.Courses.{IsAhead, moves, ahead_size, still_ahead, speed_of, cast_fits, soon}
use Rattle.cell_grid.proofs.Courses.{ends_never, ends_at_once, ends_ahead}
use Rattle.cell_grid.proofs.bounds.Bounds.ticks_until_past.Goals as goal

fits_of : (n : ℤ) → nat_abs n ≤ 2 ^ 31 → FitsSigned w64 n
fits_of n size = omega (arith, ints)

pub overflow_cast-ticks : goal.overflow_cast-ticks
overflow_cast-ticks c =
    let ahead = c.length_ahead-ahead.result in
    let is : IsAhead c.args.self c.args.course ahead =
    record { rising = c.length_ahead-ahead.ensures.rising; falling = c.length_ahead-ahead.ensures.falling } in
    let going = moves c.args.course.velocity c.if-course-eq0.false in
    let size = ahead_size c.args.self c.args.course ahead c.requires.small c.requires.slow.start is going in
    cast_fits ahead (still_ahead ahead size c.if-ahead-lt0.false) size

pub overflow_cast-ticks-2 : goal.overflow_cast-ticks-2
overflow_cast-ticks-2 c =
    (speed_of c.args.course.velocity c.unsigned_abs.result c.requires.slow.velocity
    (moves c.args.course.velocity c.if-course-eq0.false) c.unsigned_abs.ensures.value).fits

pub nonzero_div-ticks : goal.nonzero_div-ticks
nonzero_div-ticks c =
    (speed_of c.args.course.velocity c.unsigned_abs.result c.requires.slow.velocity
    (moves c.args.course.velocity c.if-course-eq0.false) c.unsigned_abs.ensures.value).some

pub returns-clause-near : goal.returns-clause-near
returns-clause-near c =
    let ahead = c.length_ahead-ahead.result in
    let is : IsAhead c.args.self c.args.course ahead =
    record { rising = c.length_ahead-ahead.ensures.rising; falling = c.length_ahead-ahead.ensures.falling } in
    let going = moves c.args.course.velocity c.if-course-eq0.false in
    let size = ahead_size c.args.self c.args.course ahead c.requires.small c.requires.slow.start is going in
    let speed = speed_of c.args.course.velocity c.unsigned_abs.result c.requires.slow.velocity going c.unsigned_abs.ensures.value in
    soon ahead c.unsigned_abs.result c.from.result size speed.some c.from.ensures

ticks_fit : (n : ℕ) → n ≤ 2 ^ 33 → Fits w64 n
ticks_fit n most = omega arith

pub overflow_add-result : goal.overflow_add-result
overflow_add-result c = ticks_fit _ (returns-clause-near c)

pub returns-clause-ends : goal.returns-clause-ends
returns-clause-ends c =
    let ahead = c.length_ahead-ahead.result in
    let is : IsAhead c.args.self c.args.course ahead =
    record { rising = c.length_ahead-ahead.ensures.rising; falling = c.length_ahead-ahead.ensures.falling } in
    let going = moves c.args.course.velocity c.if-course-eq0.false in
    let size = ahead_size c.args.self c.args.course ahead c.requires.small c.requires.slow.start is going in
    let speed = speed_of c.args.course.velocity c.unsigned_abs.result c.requires.slow.velocity going c.unsigned_abs.ensures.value in
    let fits : FitsSigned w64 ahead = fits_of ahead size in
    let length : sent ahead ≡ ahead = sent_same ahead fits in
    rw (c.from.ensures, speed.is, length)
    (ends_ahead c.args.self c.args.course ahead is going (still_ahead ahead size c.if-ahead-lt0.false))

pub returns-then-course-eq0-clause-ends : goal.returns-then-course-eq0-clause-ends
returns-then-course-eq0-clause-ends c =
    let slow = c.requires.slow.velocity in
    let zero = c.if-course-eq0.true in
    ends_never c.args.self c.args.course (omega (arith, ints))

pub returns-then-ahead-lt0-clause-ends : goal.returns-then-ahead-lt0-clause-ends
returns-then-ahead-lt0-clause-ends c =
    let ahead = c.length_ahead-ahead.result in
    let slow = c.requires.slow.velocity in
    ends_at_once c.args.self c.args.course ahead
    (record { rising = c.length_ahead-ahead.ensures.rising; falling = c.length_ahead-ahead.ensures.falling })
    (moves c.args.course.velocity c.if-course-eq0.false)
    (omega (arith, ints))
