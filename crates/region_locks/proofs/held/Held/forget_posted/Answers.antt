use Rattle.std.proofs.Common.{sym, subst}
use Rattle.region_locks.specs.Holding.{IsHeld}
use Rattle.region_locks.proofs.held.Held.forget_posted.Goals as goal

pub invariant_of-self : goal.invariant_of-self
invariant_of-self g c = subst (IsHeld g.O.Origin.opening) (sym c.forget_posted.ensures) c.self.invariant
