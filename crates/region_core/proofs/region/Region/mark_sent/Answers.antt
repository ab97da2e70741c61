use Rattle.std.proofs.Common.{Option, subst, Some, ap, sym, ◌∙◌}
use Rattle.std.specs.Prelude.{IfSome}
use Rattle.region_core.specs.declared.live.Live.{Live}
use Rattle.region_core.specs.Live.{IsLive}
use Rattle.region_core.proofs.News.{marked_live}
use Rattle.region_core.proofs.Shown.{seen_as}
use Rattle.region_core.proofs.region.Region.mark_sent.Goals as goal

pub invariant_of-self-2 : goal.invariant_of-self-2
invariant_of-self-2 c =
    let home = c.self.inside.place.home in
    let floor = c.self.inside.place.floor in
    record {
      place = c.self.invariant.place;
      alive = record {
        place = c.self.invariant.place;
        body = marked_live home floor c.in-Some.live c.mark_sent.new.self c.mark_sent.ensures.sent
            c.mark_sent.ensures.rest
            (subst (λ (o : Option Live). IfSome o (IsLive c.self.inside.place)) c.in-Some.is c.self.invariant.alive).body;
      };
    }

pub returns : goal.returns
returns c =
    let home = c.self.inside.place.home in
    let floor = c.self.inside.place.floor in
    ap (λ (live : Live). seen_as home floor (Some live)) c.mark_sent.ensures.rest
    ∙ ap (seen_as home floor) (sym c.in-Some.is) ∙ c.self.view_is
