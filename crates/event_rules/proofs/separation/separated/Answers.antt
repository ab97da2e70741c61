-- The separation is taken at the later base tick.
use Rattle.event_rules.proofs.Separations.{separated}
use Rattle.event_rules.proofs.separation.separated.Goals as goal

pub returns : goal.returns
returns c = λ rules pair.
    separated rules c.args.a.now c.args.b.now c.max.result c.places_apart.result c.velocity.result c.velocity-2.result
    c.wrapping_difference.result c.distance_between.result pair
    c.max.ensures (c.places_apart.ensures rules pair) c.velocity.ensures c.velocity-2.ensures
    c.wrapping_difference.ensures (c.distance_between.ensures rules pair)
