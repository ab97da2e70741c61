use Rattle.std.proofs.Common.{below_more, arith}
use Rattle.event_log.specs.Nearness.{IsFarHead}
use Rattle.event_log.proofs.Near.{item_at}
use Rattle.event_log.proofs.nearness.first_near.Goals as goal

pub loop-i-preserved : goal.loop-i-preserved
loop-i-preserved c = below_more _ _ c.loop-i.invariant (λ le.
    item_at (IsFarHead c.args.grid.now c.args.rows.now c.args.narrow.now) c.args.heads.now c.loop-i.i _
    c.loop-i-test.true
    (c.may_be_near.ensures c.if-may_be_near.false c.args.rows.now c.sides_of-sides.ensures.sides))

pub returns-then-may_be_near-clause-far : goal.returns-then-may_be_near-clause-far
returns-then-may_be_near-clause-far c = λ k le lt. c.loop-i.invariant k lt le

pub loop-i-init : goal.loop-i-init
loop-i-init c = λ k lt le. absurd (omega arith)

pub may_be_near-requires : goal.may_be_near-requires
may_be_near-requires c = record {
  narrow = c.requires.narrow c.loop-i.i _ c.loop-i-test.true;
  bounds = c.sides_of-sides.ensures.bounds;
}
