use Rattle.region_messages.specs.Trails.{below}
use Rattle.region_parts.proofs.Lists.{one_more}
use Rattle.region_parts.proofs.trails.cut_from.Goals as goal

pub loop-trail-preserved : goal.loop-trail-preserved
loop-trail-preserved c = one_more (below c.args.at) c.args.trails.now c.loop-trail.trail-items
    c.loop-trail.trail-index c.trail-item.result c.cut_from.new.self
    c.loop-trail-test.true c.loop-trail.invariant c.cut_from.ensures
