-- The lower code is that of the earlier key.
use Rattle.event_tree.proofs.Codes.{takes_less, keeps_less}
use Rattle.event_tree.proofs.code.Code.earlier.Goals as goal

pub returns-then-other-self : goal.returns-then-other-self
returns-then-other-self c = rw (← c.self.view_is, ← c.other.view_is)
    (takes_less c.self.inside.code c.other.inside.code c.self.invariant c.other.invariant c.if-other-self.true)

pub returns-else-other-self : goal.returns-else-other-self
returns-else-other-self c = rw (← c.self.view_is, ← c.other.view_is)
    (keeps_less c.self.inside.code c.other.inside.code c.self.invariant c.other.invariant c.if-other-self.false)
