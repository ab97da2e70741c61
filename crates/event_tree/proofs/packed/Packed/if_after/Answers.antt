-- The greater number is that of the later key.
use Rattle.std.proofs.Common.{◌∙◌}
use Rattle.event_tree.proofs.Packing.{comes_after, comes_not_after}
use Rattle.event_tree.proofs.packed.Packed.if_after.Goals as goal

pub returns-then-last-self-clause-after : goal.returns-then-last-self-clause-after
returns-then-last-self-clause-after c = λ s last. rw (← c.self.view_is)
    (comes_after c.last.inside.number c.self.inside.number s c.last.invariant c.self.invariant (c.last.view_is ∙ last) c.if-last-self.true)

pub returns-then-last-self-clause-room : goal.returns-then-last-self-clause-room
returns-then-last-self-clause-room c = rw (← c.self.view_is) c.self.invariant.room

pub returns-else-last-self-clause-same : goal.returns-else-last-self-clause-same
returns-else-last-self-clause-same c = λ s last before. c.new.ensures ∙
    comes_not_after c.last.inside.number c.self.inside.number s c.args.self c.last.invariant c.self.invariant (c.last.view_is ∙ last)
    c.self.view_is c.if-last-self.false before

pub returns-else-last-self-clause-after : goal.returns-else-last-self-clause-after
returns-else-last-self-clause-after c = λ s last. rw c.new.ensures tt

pub returns-else-last-self-clause-room : goal.returns-else-last-self-clause-room
returns-else-last-self-clause-room c = rw c.new.ensures tt
