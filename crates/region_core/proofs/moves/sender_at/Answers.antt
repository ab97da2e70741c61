use Rattle.std.proofs.Common.{None, Some, sym, subst, ◌∙◌}
use Rattle.std.proofs.lemmas.Bool.{false≢true}
use Rattle.region_parts.specs.Inbox.{IsHeadOf, IsLeastHead}
use Rattle.region_core.specs.Live.{now_in}
use Rattle.region_core.proofs.NextMove.{none_at, least_waiting}
use Rattle.region_core.proofs.moves.sender_at.Goals as goal

pub returns-in-None : goal.returns-in-None
returns-in-None c = λ place live is head due.
    least_waiting place.home place.floor live None is.body
    (subst (IsLeastHead live.inbox) c.in-None.is head) c.args.due.now

pub returns-then-is_same : goal.returns-then-is_same
returns-then-is_same c = λ place live is head due.
    let least = subst (IsLeastHead live.inbox) c.in-Some.is head in
    subst (IsHeadOf live.inbox c.in-Some.from) (c.is_same.ensures.0 c.if-is_same.true) least.0

pub returns-else-is_same : goal.returns-else-is_same
returns-else-is_same c = λ place live is head due.
    let least = least_waiting place.home place.floor live
    (Some (c.in-Some.from, c.in-Some.stamp)) is.body
    (subst (IsLeastHead live.inbox) c.in-Some.is head) in
    none_at place.home (now_in live) c.in-Some.stamp c.args.due.now least
    due
    (λ same. false≢true (sym c.if-is_same.false ∙ c.is_same.ensures.1 same))
