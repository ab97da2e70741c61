-- The sides are asked in order.
use Rattle.std.proofs.Common.{arith, below_more}
use Rattle.std.proofs.lemmas.Bool.{both_ways}
use Rattle.event_rules.proofs.Ranges.{side_range}
use Rattle.event_rules.proofs.wall_events.first_past.Goals as goal

pub loop-side-preserved : goal.loop-side-preserved
loop-side-preserved c = below_more _ _ c.loop-side.invariant
    (λ past. both_ways c.is_past.result c.if-is_past.false (c.is_past.ensures.1 past))

pub returns : goal.returns
returns c = λ side past.
    let lt = side_range c.args.rules.now c.args.a.now side c.args.place past in
    c.loop-side.invariant side (omega arith) past

pub returns-then-is_past : goal.returns-then-is_past
returns-then-is_past c = record { past = c.is_past.ensures.0 c.if-is_past.true; least = c.loop-side.invariant }
