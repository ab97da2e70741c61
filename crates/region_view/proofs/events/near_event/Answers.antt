use Rattle.std.proofs.lemmas.Bool.{both_ways}
use Rattle.region_view.proofs.First.{near_if_adjacent}
use Rattle.region_view.proofs.events.near_event.Goals as goal

pub returns-then-adjacent : goal.returns-then-adjacent
returns-then-adjacent c =
    near_if_adjacent c.args.rules.now c.args.grid.now c.args.i c.args.first.now c.args.j c.args.second.now c.pair_event.result
    (c.adjacent.ensures.0 c.if-adjacent.true) c.pair_event.ensures

pub returns-else-adjacent : goal.returns-else-adjacent
returns-else-adjacent c = λ s near. both_ways c.adjacent.result c.if-adjacent.false (c.adjacent.ensures.1 near.0)
