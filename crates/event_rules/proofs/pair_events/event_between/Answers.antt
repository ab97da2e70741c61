-- The disks touch at the same tick in either order, and the stamp names the lower number first.
use Rattle.std.proofs.Common.{sym, subst}
use Rattle.event_stamps.specs.Least.{IsOnly}
use Rattle.event_rules.specs.Events.{IsPairEvent}
use Rattle.event_rules.proofs.Swapped.{no_event_falling, event_falling, event_rising}
use Rattle.event_rules.proofs.pair_events.event_between.Goals as goal

pub returns-in_err-touching_tick-clause-rising : goal.returns-in_err-touching_tick-clause-rising
returns-in_err-touching_tick-clause-rising c = λ lt. rw c.from_residual.ensures (λ s event. c.in_err-touching_tick.ensures s.tick event.1 event.0)

pub returns-in_err-touching_tick-clause-falling : goal.returns-in_err-touching_tick-clause-falling
returns-in_err-touching_tick-clause-falling c = λ lt. rw c.from_residual.ensures
    (no_event_falling c.args.rules.now c.args.i c.args.j c.args.a.now c.args.b.now c.in_err-touching_tick.ensures)

pub returns-clause-rising : goal.returns-clause-rising
returns-clause-rising c = λ lt.
    subst (IsOnly (IsPairEvent c.args.rules.now c.args.i c.args.a.now c.args.j c.args.b.now)) (sym c.stamp_at.ensures)
    (event_rising c.args.rules.now c.args.i c.args.j c.in_ok-touching_tick.field-0 c.args.a.now c.args.b.now lt c.in_ok-touching_tick.ensures)

pub returns-clause-falling : goal.returns-clause-falling
returns-clause-falling c = λ lt.
    subst (IsOnly (IsPairEvent c.args.rules.now c.args.j c.args.b.now c.args.i c.args.a.now)) (sym c.stamp_at.ensures)
    (event_falling c.args.rules.now c.args.i c.args.j c.in_ok-touching_tick.field-0 c.args.a.now c.args.b.now lt c.in_ok-touching_tick.ensures)
