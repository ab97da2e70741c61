-- The places are those at the tick.
use Rattle.std.proofs.Common.{sym, subst}
use Rattle.std.proofs.lemmas.Bool.{both_ways}
use Rattle.plane_vectors.specs.declared.Vector.{Vector}
use Rattle.fixed_motion.specs.Motion.{IsInside}
use Rattle.event_rules.proofs.pair_events.touch_inside.Goals as goal

pub touch_at-requires-clause-first_inside : goal.touch_at-requires-clause-first_inside
touch_at-requires-clause-first_inside c =
    subst (λ (v : Vector). IsInside c.args.rules.now c.args.a.now v) (sym c.centre_at.ensures)
    (c.are_inside_at.ensures.0 c.if-are_inside_at.true).0

pub touch_at-requires-clause-second_inside : goal.touch_at-requires-clause-second_inside
touch_at-requires-clause-second_inside c =
    subst (λ (v : Vector). IsInside c.args.rules.now c.args.b.now v) (sym c.centre_at-then-are_inside_at.ensures)
    (c.are_inside_at.ensures.0 c.if-are_inside_at.true).1

pub returns-then-are_inside_at : goal.returns-then-are_inside_at
returns-then-are_inside_at c =
    let touch = rw (c.centre_at.ensures, c.centre_at-then-are_inside_at.ensures) at c.touch_at.ensures in
    (λ yes. (c.are_inside_at.ensures.0 c.if-are_inside_at.true, touch.0 yes), λ h. touch.1 h.1)

pub returns-else-are_inside_at : goal.returns-else-are_inside_at
returns-else-are_inside_at c = (
  λ yes. cc,
  λ h. absurd (both_ways c.are_inside_at.result c.if-are_inside_at.false (c.are_inside_at.ensures.1 h.0)),
)
