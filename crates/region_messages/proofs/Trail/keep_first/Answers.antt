use Rattle.std.proofs.Common.{sym, subst}
use Rattle.event_stamps.proofs.Rising.{rises_take}
use Rattle.region_messages.specs.Trails.{Rises, message_key}
use Rattle.region_messages.proofs.Trail.keep_first.Goals as goal

pub invariant_of-self : goal.invariant_of-self
invariant_of-self c =
    subst Rises (sym c.truncate.ensures.items)
    (rises_take message_key _ c.self.inside.messages.items c.self.invariant)

pub returns-clause-rises : goal.returns-clause-rises
returns-clause-rises c =
    subst Rises (sym c.truncate.ensures.items)
    (rises_take message_key _ c.self.inside.messages.items c.self.invariant)
