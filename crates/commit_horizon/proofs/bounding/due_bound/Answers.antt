use Rattle.std.proofs.Common.{◌≡◌, Bool, cond, ap, ◌∙◌, sym, subst, Some}
use Rattle.event_stamps.specs.declared.Stamp.{Stamp}
use Rattle.commit_horizon.specs.Bounds.{HoldsUpTo, IsUpToDue, later_of}
use Rattle.event_stamps.proofs.Derived.{lt_is}
use Rattle.commit_horizon.proofs.Within.{due_holds}
use Rattle.commit_horizon.proofs.bounding.due_bound.Goals as goal

pub returns-then-lt-clause-due : goal.returns-then-lt-clause-due
returns-then-lt-clause-due c =
    let region = c.args.region.now in
    let due = c.due-due.result in
    let floor = c.floor-floor.result in
    let same : later_of due region.floor ≡ floor
    = ap (later_of due) (sym c.floor-floor.ensures.value)
    ∙ ap (λ (b : Bool). cond b floor due) (sym (sym c.if-lt.true ∙ c.lt.ensures ∙ lt_is due floor)) in
    subst (λ (s : Stamp). HoldsUpTo (IsUpToDue region) (Some s)) same
    (due_holds region due c.due-due.ensures.kept c.due-due.ensures.value)

pub returns-else-lt-clause-due : goal.returns-else-lt-clause-due
returns-else-lt-clause-due c =
    let region = c.args.region.now in
    let due = c.due-due.result in
    let floor = c.floor-floor.result in
    let same : later_of due region.floor ≡ due
    = ap (later_of due) (sym c.floor-floor.ensures.value)
    ∙ ap (λ (b : Bool). cond b floor due) (sym (sym c.if-lt.false ∙ c.lt.ensures ∙ lt_is due floor)) in
    subst (λ (s : Stamp). HoldsUpTo (IsUpToDue region) (Some s)) same
    (due_holds region due c.due-due.ensures.kept c.due-due.ensures.value)
