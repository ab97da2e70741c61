-- The quadratic is that of the disks, and the next one is that of the next tick.
use Rattle.std.proofs.Common.{arith}
use Rattle.std.specs.Prelude.{ℤ, pos, ◌≤ℤ◌, ◌<ℤ◌}
use Rattle.std.proofs.lemmas.Int.{ints, by_lt_z}
use Rattle.std.proofs.lemmas.Bool.{both_ways, not-true, not_from_false, false_from_ne_true, false≢true}
use Rattle.contact_predictor.proofs.Quadratic.{touch_course, contact_told}
use Rattle.contact_predictor.proofs.approach.Approach.is_contact.Goals as goal

not_less : (n : ℤ) → n <ℤ pos 0 → ¬ (pos 0 ≤ℤ n)
not_less n less least = omega (arith, ints)

pub returns-then-overlap : goal.returns-then-overlap
returns-then-overlap c = λ fits r u distance of. (
  λ yes. absurd (false≢true yes),
  λ contact. absurd (not_less c.args.self.gap (c.overlap.ensures.0 c.if-overlap.true) (touch_course c.args.self r u distance of (record { approaching = contact.approaching; crossing = contact.crossing })).0),
)

pub returns-then-is_course : goal.returns-then-is_course
returns-then-is_course c = λ fits r u distance of.
    let q = c.args.self in
    let apart : pos 0 ≤ℤ q.gap =
    by_lt_z q.gap (pos 0) (λ lt. absurd (both_ways c.overlap.result c.if-overlap.false (c.overlap.ensures.1 lt))) (λ le. le) in
    let told = contact_told q c.after.result (record { fits = fits; apart = apart; course = c.is_course.ensures.0 c.if-is_course.true })
    (record { square = c.after.ensures.square; closing = c.after.ensures.closing; gap = c.after.ensures.gap }) r u distance of in
    let next = c.is_approaching.result in (
      λ yes. told.0 (λ again. both_ways next (not-true next yes) (c.is_approaching.ensures.1 again)),
      λ contact. not_from_false next (false_from_ne_true next (λ yes. told.1 contact (c.is_approaching.ensures.0 yes))),
    )

pub returns-else-is_course : goal.returns-else-is_course
returns-else-is_course c = λ fits r u distance of. (
  λ yes. absurd (both_ways c.is_course.result c.if-is_course.false yes),
  λ contact. c.is_course.ensures.1 (touch_course c.args.self r u distance of (record { approaching = contact.approaching; crossing = contact.crossing })).1,
)
