-- The lower number is that of the earlier key.
use Rattle.event_tree.proofs.Packing.{takes_lower, keeps_lower}
use Rattle.event_tree.proofs.packed.Packed.earlier.Goals as goal

pub returns-then-other-self : goal.returns-then-other-self
returns-then-other-self c = rw (← c.self.view_is, ← c.other.view_is)
    (takes_lower c.self.inside.number c.other.inside.number c.self.invariant c.other.invariant c.if-other-self.true)

pub returns-else-other-self : goal.returns-else-other-self
returns-else-other-self c = rw (← c.self.view_is, ← c.other.view_is)
    (keeps_lower c.self.inside.number c.other.inside.number c.self.invariant c.other.invariant c.if-other-self.false)
