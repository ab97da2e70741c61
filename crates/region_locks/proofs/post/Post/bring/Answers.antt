use Rattle.region_locks.proofs.Posting.{still_hearable}
use Rattle.region_locks.proofs.post.Post.bring.Goals as goal

pub invariant_of-self : goal.invariant_of-self
invariant_of-self g c = still_hearable g.O.Origin.opening c.args.region.now c.self.inside.from c.self.inside.to
    c.self.inside.floor c.self.inside.trail c.post.new.copy c.requires (c.is_at.ensures.alive c.if-not-is_at.false)
    (c.is_at.ensures.number c.if-not-is_at.false) (c.is_at.ensures.floor_is c.if-not-is_at.false)
    c.post.ensures.posted c.self.invariant
