use Rattle.region_locks.proofs.Holds.{spent_held, begun_held}
use Rattle.region_locks.proofs.held.Held.run_before.Goals as goal

pub invariant_of-self : goal.invariant_of-self
invariant_of-self g c = spent_held g.O.Origin.opening c.self.inside.region c.run_before.new.self
    c.in_err-run_before.ensures.spent

pub invariant_of-self-2 : goal.invariant_of-self-2
invariant_of-self-2 g c = begun_held g.O.Origin.opening c.self.inside.region c.run_before.new.self c.self.invariant
    c.in_ok-run_before.ensures.begins

pub invariant_of-self-3 : goal.invariant_of-self-3
invariant_of-self-3 g c = begun_held g.O.Origin.opening c.self.inside.region c.run_before.new.self c.self.invariant
    c.in_ok-run_before.ensures.begins
