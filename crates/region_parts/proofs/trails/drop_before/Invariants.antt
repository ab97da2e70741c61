use Rattle.std.proofs.Common.{◌≡◌, map, ◌++◌, take, drop}
use Rattle.region_messages.specs.Trails.{from}
use Rattle.region_parts.proofs.trails.drop_before.Given as goal

abbrev pub invariant-loop-trail : goal.invariant-loop-trail
invariant-loop-trail l =
    l.trail-items ≡ map (from l.to) (take l.trail-index l.fn.trails) ++ drop l.trail-index l.fn.trails
