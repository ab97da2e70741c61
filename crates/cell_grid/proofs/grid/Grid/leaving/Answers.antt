-- A crossing is due if the disk is inside the box when it leaves the cell, and that is before the end.
use Rattle.std.proofs.Common.{arith, sym, subst}
use Rattle.std.proofs.lemmas.Bool.{both_ways}
use Rattle.plane_vectors.specs.declared.Vector.{Vector}
use Rattle.fixed_motion.specs.Motion.{IsInside}
use Rattle.cell_grid.proofs.Ends.{no_crossing}
use Rattle.cell_grid.proofs.AfterBase.{only_later}
use Rattle.cell_grid.proofs.grid.Grid.leaving.Goals as goal
use Rattle.cell_grid.proofs.grid.Grid.leaving.Goals.{else-tick-rules-via-then-tick-rules+else-is_inside, else-tick-rules-via-else-tick-rules}

pub returns-then-is_inside : goal.returns-then-is_inside
returns-then-is_inside c = λ disk.
    only_later c.args.rules.now c.args.self.now disk c.args.a.now c.args.cell c.in-Some.tick c.in-Some.ensures
    (subst (λ (p : Vector). IsInside c.args.rules.now c.args.a.now p) c.centre_at.ensures (c.is_inside.ensures.fact.0 c.if-is_inside.true))
    c.if-tick-rules.true

pub returns-else-tick-rules : goal.returns-else-tick-rules
returns-else-tick-rules c = λ disk.
    no_crossing c.args.rules.now c.args.self.now disk c.args.a.now c.args.cell c.in-Some.tick c.in-Some.ensures.0
    (λ before inside. elim c.else-tick-rules.branch [
      | else-tick-rules-via-then-tick-rules+else-is_inside w ↦
          absurd (both_ways w.is_inside.result w.if-is_inside.false
          (w.is_inside.ensures.fact.1 (subst (λ (p : Vector). IsInside c.args.rules.now c.args.a.now p) (sym w.centre_at.ensures) inside)))
      | else-tick-rules-via-else-tick-rules w ↦ absurd (omega (arith, w.if-tick-rules.false))
    ])
