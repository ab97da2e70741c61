use Rattle.region_locks.proofs.Holds.{heard_held}
use Rattle.region_locks.proofs.Posting.{hearable_there}
use Rattle.region_locks.proofs.post.Post.hear.Goals as goal

pub catch_up_posted-requires : goal.catch_up_posted-requires
catch_up_posted-requires g c = hearable_there g.O.Origin.opening c.args.region.now c.self.inside.from c.self.inside.to
    c.self.inside.floor c.self.inside.trail c.requires (c.is_at.ensures.alive c.if-not-is_at.false)
    (c.is_at.ensures.number c.if-not-is_at.false) (c.is_at.ensures.floor_is c.if-not-is_at.false) c.self.invariant

pub returns : goal.returns
returns g c = heard_held g.O.Origin.opening c.args.region.now c.catch_up_posted.new.self c.catch_up_posted.result
    c.requires c.catch_up_posted.ensures.begins c.catch_up_posted.ensures.spent
