-- A disk hits the first side that it is past one tick after its last inside.
use Rattle.std.proofs.Common.{arith, refl, subst}
use Rattle.plane_vectors.specs.declared.Vector.{Vector}
use Rattle.event_rules.specs.Events.{IsPast}
use Rattle.event_rules.specs.Predict.{IsFirstPast}
use Rattle.event_rules.proofs.Walls.{first_wall_event, no_first_wall, still_no_wall}
use Rattle.event_rules.proofs.wall_events.first_wall.Goals as goal

pub returns-then-tick-rules : goal.returns-then-tick-rules
returns-then-tick-rules c =
    no_first_wall c.args.rules.now c.args.disk c.args.a.now c.in_ok-tick.tick c.in_ok-tick.ensures.last
    (λ before side past. let late = c.if-tick-rules.true in omega arith)

pub returns-in_err-side : goal.returns-in_err-side
returns-in_err-side c =
    rw c.from_residual-in_err-side.ensures
    (no_first_wall c.args.rules.now c.args.disk c.args.a.now c.in_ok-tick.tick c.in_ok-tick.ensures.last
    (λ before side. subst (λ (p : Vector). IsPast c.args.rules.now c.args.a.now side p → ⊥) c.centre_at.ensures
    (c.in_err-side.ensures side)))

pub returns : goal.returns
returns c =
    first_wall_event c.args.rules.now c.args.disk c.args.a.now c.in_ok-side.side c.in_ok-tick.tick _ c.in_ok-tick.ensures.last
    (subst (λ (p : Vector). IsFirstPast c.args.rules.now c.args.a.now p c.in_ok-side.side) c.centre_at.ensures c.in_ok-side.ensures)
    c.if-tick-rules.false c.wall_at.ensures

pub returns-in_err-tick : goal.returns-in_err-tick
returns-in_err-tick c =
    rw c.from_residual.ensures (λ s w. still_no_wall c.args.rules.now c.args.disk c.args.a.now w.0 c.requires.valid.centre (c.in_err-tick.ensures.still.0 refl) s w.2)
