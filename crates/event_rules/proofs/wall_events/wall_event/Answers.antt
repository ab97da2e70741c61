-- A disk hits a side at its last tick inside, if it is past that side one tick later.
use Rattle.std.proofs.Common.{arith, refl, sym, subst}
use Rattle.std.proofs.lemmas.Bool.{both_ways}
use Rattle.plane_vectors.specs.declared.Vector.{Vector}
use Rattle.event_rules.specs.Events.{IsPast}
use Rattle.event_rules.proofs.Walls.{only_wall_event, no_wall_event, still_no_wall}
use Rattle.event_rules.proofs.wall_events.wall_event.Goals as goal
use Rattle.event_rules.proofs.wall_events.wall_event.Goals.{else-tick-rules-via-then-tick-rules+else-is_past, else-tick-rules-via-else-tick-rules}

pub returns-then-is_past : goal.returns-then-is_past
returns-then-is_past c =
    only_wall_event c.args.rules.now c.args.disk c.args.a.now c.args.side c.in_ok-tick.tick _ c.in_ok-tick.ensures.last
    (subst (λ (p : Vector). IsPast c.args.rules.now c.args.a.now c.args.side p) c.centre_at.ensures (c.is_past.ensures.0 c.if-is_past.true))
    c.if-tick-rules.true c.wall_at.ensures

pub returns-else-tick-rules : goal.returns-else-tick-rules
returns-else-tick-rules c =
    no_wall_event c.args.rules.now c.args.disk c.args.a.now c.args.side c.in_ok-tick.tick c.in_ok-tick.ensures.last
    (λ before past. elim c.else-tick-rules.branch [
      | else-tick-rules-via-then-tick-rules+else-is_past w ↦
          absurd (both_ways w.is_past.result w.if-is_past.false
          (w.is_past.ensures.1 (subst (λ (p : Vector). IsPast c.args.rules.now c.args.a.now c.args.side p) (sym w.centre_at.ensures) past)))
      | else-tick-rules-via-else-tick-rules w ↦ absurd (omega (arith, w.if-tick-rules.false))
    ])

pub returns-in_err-tick : goal.returns-in_err-tick
returns-in_err-tick c =
    rw c.from_residual.ensures (still_no_wall c.args.rules.now c.args.disk c.args.a.now c.args.side c.requires.valid.centre (c.in_err-tick.ensures.still.0 refl))
