use Rattle.std.proofs.Common.{sym, subst}
use Rattle.region_locks.specs.Holding.{IsHeld}
use Rattle.region_locks.proofs.Holds.{spent_held}
use Rattle.region_locks.proofs.held.Held.take_back.Goals as goal

pub invariant_of-self : goal.invariant_of-self
invariant_of-self g c = spent_held g.O.Origin.opening c.self.inside.region c.take.new.self c.take.ensures.spent

pub returns : goal.returns
returns g c = subst (IsHeld g.O.Origin.opening) (sym c.take.ensures.taken) c.self.invariant
