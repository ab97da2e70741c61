-- A crossing is due if the disk is inside the box when it leaves the cell, and that is before the end.
use Rattle.std.proofs.Common.{arith, sym, subst}
use Rattle.std.proofs.lemmas.Bool.{both_ways}
use Rattle.plane_vectors.specs.declared.Vector.{Vector}
use Rattle.fixed_motion.specs.Motion.{IsInside}
use Rattle.event_stamps.specs.declared.Kind.TheVariants.{Cross}
use Rattle.cell_grid.proofs.Ends.{only_crossing, no_crossing}
use Rattle.cell_grid.proofs.grid.Grid.crossing.Goals as goal
use Rattle.cell_grid.proofs.grid.Grid.crossing.Goals.{else-tick-rules-via-then-tick-rules+else-is_inside, else-tick-rules-via-else-tick-rules}

pub returns-in_err-tick : goal.returns-in_err-tick
returns-in_err-tick c =
    let h = c.in_err-tick.ensures in
    rw c.from_residual.ensures (λ s k. h s.tick k.0.leaving)

pub returns-then-is_inside : goal.returns-then-is_inside
returns-then-is_inside c =
    only_crossing c.args.rules.now c.args.self.now c.args.disk c.args.a.now c.args.cell c.in_ok-tick.tick _ c.in_ok-tick.ensures
    (subst (λ (p : Vector). IsInside c.args.rules.now c.args.a.now p) c.centre_at.ensures (c.is_inside.ensures.fact.0 c.if-is_inside.true))
    c.if-tick-rules.true
    (λ i. record {
      tick = c.in_ok-tick.tick;
      round = c.mark_at.ensures i;
      kind = Cross;
      first = c.args.disk;
      second = 0;
    })

pub returns-else-tick-rules : goal.returns-else-tick-rules
returns-else-tick-rules c =
    no_crossing c.args.rules.now c.args.self.now c.args.disk c.args.a.now c.args.cell c.in_ok-tick.tick c.in_ok-tick.ensures
    (λ before inside. elim c.else-tick-rules.branch [
      | else-tick-rules-via-then-tick-rules+else-is_inside w ↦
          absurd (both_ways w.is_inside.result w.if-is_inside.false
          (w.is_inside.ensures.fact.1 (subst (λ (p : Vector). IsInside c.args.rules.now c.args.a.now p) (sym w.centre_at.ensures) inside)))
      | else-tick-rules-via-else-tick-rules w ↦ absurd (omega (arith, w.if-tick-rules.false))
    ])
