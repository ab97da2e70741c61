use Rattle.std.proofs.Common.{sym, subst}
use Rattle.region_messages.specs.Trails.{Rises}
use Rattle.region_messages.proofs.Among.{rises_push}
use Rattle.region_messages.proofs.Trail.push.Goals as goal

pub invariant_of-self-2 : goal.invariant_of-self-2
invariant_of-self-2 c =
    subst Rises (sym c.in_ok-push.ensures.items)
    (rises_push c.self.inside.messages.items c.args.message c.self.invariant
    (rw c.self.view_is c.requires))

pub invariant_of-self : goal.invariant_of-self
invariant_of-self c = subst Rises (sym c.in_err-push.ensures.items) c.self.invariant
