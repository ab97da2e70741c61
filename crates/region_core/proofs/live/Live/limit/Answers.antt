use Rattle.std.proofs.Common.{None, Some, sym, subst, ◌∙◌}
use Rattle.std.proofs.lemmas.Bool.{false≢true}
use Rattle.event_stamps.proofs.StampOrder.{before_trans, not_before_itself}
use Rattle.region_parts.specs.Inbox.{IsLeastHead}
use Rattle.region_core.specs.Live.{now_in}
use Rattle.region_core.proofs.NextMove.{least_waiting}
use Rattle.region_core.proofs.RunningOn.{clear_of_first, clear_of_bound}
use Rattle.region_core.proofs.live.Live.limit.Goals as goal

pub returns-then-is_before-clause-clear : goal.returns-then-is_before-clause-clear
returns-then-is_before-clause-clear c = λ place is.
    let live = c.args.self.now in
    clear_of_first c.in-Some.stamp (now_in live).waiting
    (least_waiting place.home place.floor live (Some (c.in-Some.field-0-0, c.in-Some.stamp)) is.body
    (subst (IsLeastHead live.inbox) c.in-Some.is c.least.ensures))

pub returns-else-is_before-clause-clear : goal.returns-else-is_before-clause-clear
returns-else-is_before-clause-clear c = λ place is.
    let live = c.args.self.now in
    clear_of_bound c.in-Some.stamp c.args.bound.now (now_in live).waiting
    (least_waiting place.home place.floor live (Some (c.in-Some.field-0-0, c.in-Some.stamp)) is.body
    (subst (IsLeastHead live.inbox) c.in-Some.is c.least.ensures))
    (λ lt. false≢true (sym c.if-is_before.false ∙ c.is_before.ensures.1 lt))

pub returns-in-None-clause-clear : goal.returns-in-None-clause-clear
returns-in-None-clause-clear c = λ place is.
    let live = c.args.self.now in
    let none = least_waiting place.home place.floor live None is.body
    (subst (IsLeastHead live.inbox) c.in-None.is c.least.ensures) in
    λ s waits lt. none s waits

pub returns-then-is_before-clause-bound : goal.returns-then-is_before-clause-bound
returns-then-is_before-clause-bound c = λ after.
    not_before_itself c.in-Some.stamp
    (before_trans c.in-Some.stamp c.args.bound.now c.in-Some.stamp (c.is_before.ensures.0 c.if-is_before.true) after)

pub returns-else-is_before-clause-bound : goal.returns-else-is_before-clause-bound
returns-else-is_before-clause-bound c = not_before_itself c.args.bound.now

pub returns-in-None-clause-bound : goal.returns-in-None-clause-bound
returns-in-None-clause-bound c = not_before_itself c.args.bound.now
