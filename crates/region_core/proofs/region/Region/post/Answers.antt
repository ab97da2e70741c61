use Rattle.region_core.proofs.Kept.{body_is, still_sound}
use Rattle.region_core.proofs.News.{marked_live}
use Rattle.region_core.proofs.Posted.{posted_on}
use Rattle.std.proofs.Common.{Some}
use Rattle.region_core.proofs.region.Region.post.Goals as goal

pub invariant_of-self-2 : goal.invariant_of-self-2
invariant_of-self-2 c =
    let home = c.self.inside.place.home in
    let floor = c.self.inside.place.floor in
    still_sound c.self.inside.place c.self.inside.live (Some c.post.new.self) c.self.invariant
    record {
      place = c.self.invariant.place;
      body = marked_live home floor c.in-Some.live c.post.new.self c.post.ensures.sent c.post.ensures.rest
          (body_is c.self.inside.place c.self.inside.live c.in-Some.live c.self.invariant c.in-Some.is).body;
    }

pub returns-clause-posted : goal.returns-clause-posted
returns-clause-posted c =
    let home = c.self.inside.place.home in
    let floor = c.self.inside.place.floor in
    posted_on home floor c.self.inside.live c.in-Some.live c.args.self.now c.args.to c.args.copy.now c.post.new.copy
    c.self.view_is c.self.invariant.place.home
    (body_is c.self.inside.place c.self.inside.live c.in-Some.live c.self.invariant c.in-Some.is).body
    (c.sends_to.ensures.0 c.if-not-sends_to.false) c.post.ensures.rises c.post.ensures.among

pub sends_to-requires : goal.sends_to-requires
sends_to-requires c = c.self.invariant.place.home.number
