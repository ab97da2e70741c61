-- The disks can hit each other at the same tick in either order.
use Rattle.std.proofs.Common.{sym, subst}
use Rattle.event_rules.specs.Events.{IsChance}
use Rattle.event_rules.proofs.Swapped.{no_event_falling, chance_stamp}
use Rattle.event_rules.proofs.pair_events.chance_between.Goals as goal

pub returns-in_err-only_chance : goal.returns-in_err-only_chance
returns-in_err-only_chance c =
    let never = c.in_err-only_chance.ensures in
    rw c.from_residual.ensures (record {
      rising = λ lt s event. never s.tick event.1 event.0;
      falling = λ lt. no_event_falling c.args.rules.now c.args.i c.args.j c.args.a.now c.args.b.now never;
    })

pub returns : goal.returns
returns c =
    subst (IsChance c.args.rules.now c.args.i c.args.a.now c.args.j c.args.b.now) (sym c.stamp_at.ensures)
    (chance_stamp c.args.rules.now c.args.i c.args.j c.in_ok-only_chance.field-0 c.args.a.now c.args.b.now c.in_ok-only_chance.ensures)
