use Rattle.region_messages.proofs.Trail.mark.Goals as goal

pub invariant_of-self : goal.invariant_of-self
invariant_of-self c = c.self.invariant

pub returns : goal.returns
returns c = c.self.view_is
