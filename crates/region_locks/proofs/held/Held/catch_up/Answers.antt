use Rattle.std.proofs.Common.{sym, subst}
use Rattle.region_locks.specs.Holding.{IsHeld}
use Rattle.region_locks.proofs.Holds.{heard_held}
use Rattle.region_locks.proofs.held.Held.catch_up.Goals as goal

pub invariant_of-self : goal.invariant_of-self
invariant_of-self g c = heard_held g.O.Origin.opening c.self.inside.region c.catch_up.new.self c.catch_up.result
    c.self.invariant c.catch_up.ensures.begins c.catch_up.ensures.spent

pub invariant_of-from : goal.invariant_of-from
invariant_of-from g c = subst (IsHeld g.O.Origin.opening) (sym c.catch_up.ensures.teller) c.from.invariant
