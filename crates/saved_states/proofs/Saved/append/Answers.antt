use Rattle.std.proofs.Common.{[], ◌∷◌, ◌++◌, sym, ap, ◌∙◌, subst}
use Rattle.saved_states.specs.Positions.{SavedData, IsAfterLast, Appends}
use Rattle.saved_states.specs.Steps.{StepList, RiseAfter, rebuilt}
use Rattle.saved_states.proofs.Rising.{rise_push}
use Rattle.saved_states.proofs.Rebuilt.{last_before, appends}
use Rattle.saved_states.proofs.Saved.append.Goals as goal

pub invariant_of-self-2 : goal.invariant_of-self-2
invariant_of-self-2 c =
    let a = c.self.inside in
    rw (c.in_ok-push.ensures.items, c.in_ok-reserve.ensures.items)
    (rise_push a.first a.steps.items c.args.position _ c.self.invariant
    (last_before a.first c.args.position a.newest a.steps.items
    (subst (λ (v : SavedData). IsAfterLast v c.args.position) (sym c.self.view_is) c.requires)))

pub returns-clause-appended : goal.returns-clause-appended
returns-clause-appended c =
    let a = c.self.inside in
    let pushed = c.in_ok-push.ensures.items
    ∙ ap (λ (v : StepList). v ++ (c.args.position, c.swap.new.rows) ∷ []) c.in_ok-reserve.ensures.items in
    subst (λ (v : SavedData). Appends v (rebuilt a.first c.swap.new.self c.push.new.self.items)
    c.args.position c.args.rows) c.self.view_is
    (subst (λ (v : StepList). Appends (rebuilt a.first a.newest a.steps.items)
    (rebuilt a.first c.swap.new.self v) c.args.position c.args.rows) (sym pushed)
    (appends a.first a.newest c.swap.new.self a.steps.items c.args.position c.args.rows
    c.swap.new.rows c.in_ok-swap.ensures.view c.in_ok-swap.ensures.rows))

pub invariant_of-self-in_err-push : goal.invariant_of-self-in_err-push
invariant_of-self-in_err-push c =
    subst (RiseAfter c.self.inside.first)
    (sym (c.in_err-push.ensures.items ∙ c.in_ok-reserve.ensures.items)) c.self.invariant

pub invariant_of-self-in_err-swap : goal.invariant_of-self-in_err-swap
invariant_of-self-in_err-swap c =
    subst (RiseAfter c.self.inside.first) (sym c.in_ok-reserve.ensures.items) c.self.invariant

pub invariant_of-self : goal.invariant_of-self
invariant_of-self c =
    subst (RiseAfter c.self.inside.first) (sym c.in_err-reserve.ensures.items) c.self.invariant
