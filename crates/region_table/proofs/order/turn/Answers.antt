use Rattle.std.proofs.Common.{◌<◌, length, ap, ◌∙◌, arith}
use Rattle.atomic_table.specs.Table.{turned}
use Rattle.region_table.proofs.Calls.{turn_once}
use Rattle.region_table.proofs.order.turn.Goals as goal

pub loop-preserved : goal.loop-preserved
loop-preserved c =
    let e = c.turn.ensures in
    let i = c.loop.invariant in
    let old = c.args.token.now.me in
    let more : c.loop.counter < length old.1 = omega (arith, c.loop-test.true, c.requires) in (
      e.0 ∙ i.0,
      e.1 ∙ i.1,
      e.2 ∙ (ap (λ m. (m.0, turned m.1)) i.2 ∙ ap (λ z. (old.0, z)) (turn_once old.1 c.loop.counter more)),
    )
