-- Each lane is told so.
use Rattle.std.proofs.Common.{[], ◌∷◌}
use Rattle.std.specs.Int.{w64}
use Rattle.std.proofs.lemmas.Int.{SFits-int_wrap}
use Rattle.plane_vectors.specs.Vectors.{dot}
use Rattle.event_rules.proofs.SideBySide.{dotted}
use Rattle.event_rules.proofs.lanes.dots.Goals as goal

pub returns : goal.returns
returns c = λ r s u v hrx hry hux huy.
    rw (hrx.are, hry.are, hux.are, huy.are) (record {
      are = λ i. dotted r.x r.y u.x u.y hrx.first hry.first hux.first huy.first i
          ∷ (dotted s.x s.y v.x v.y hrx.second hry.second hux.second huy.second i ∷ []);
      first = SFits-int_wrap w64 (dot r u);
      second = SFits-int_wrap w64 (dot s v);
    })
