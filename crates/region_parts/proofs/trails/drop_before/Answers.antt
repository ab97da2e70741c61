use Rattle.region_messages.specs.Trails.{from}
use Rattle.region_parts.proofs.Lists.{one_more}
use Rattle.region_parts.proofs.trails.drop_before.Goals as goal

pub loop-trail-preserved : goal.loop-trail-preserved
loop-trail-preserved c = one_more (from c.args.to) c.args.trails.now c.loop-trail.trail-items
    c.loop-trail.trail-index c.trail-item.result c.drop_before.new.self
    c.loop-trail-test.true c.loop-trail.invariant c.drop_before.ensures
