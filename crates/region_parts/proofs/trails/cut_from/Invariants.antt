use Rattle.std.proofs.Common.{◌≡◌, map, ◌++◌, take, drop}
use Rattle.region_messages.specs.Trails.{below}
use Rattle.region_parts.proofs.trails.cut_from.Given as goal

abbrev pub invariant-loop-trail : goal.invariant-loop-trail
invariant-loop-trail l =
    l.trail-items ≡ map (below l.at) (take l.trail-index l.fn.trails) ++ drop l.trail-index l.fn.trails
