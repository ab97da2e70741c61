-- Disks that hit each other are in the box at the later base tick, and there the test is exact.
use Rattle.std.proofs.Common.{◌∙◌}
use Rattle.plane_vectors.proofs.Sizes.{sent_same}
use Rattle.event_rules.proofs.Reaches.{tells_by_reach}
use Rattle.event_rules.proofs.separation.may_hit.Goals as goal

pub returns : goal.returns
returns c =
    tells_by_reach c.args.square c.args.a.now c.args.b.now c.of_square.result c.is_course.result
    (λ rules pair. record {
      apart = c.separated-s.result;
      is = c.separated-s.ensures rules pair;
      told = λ distance is near. c.of_square.ensures distance (sent_same c.args.square c.ranges.square ∙ is);
    })
    c.is_course.ensures
