use Rattle.std.proofs.Common.{ℕ, take, sym, ap, ◌∙◌, subst, arith}
use Rattle.std.specs.List.Sorted.{IsNonDecreasingBy}
use Rattle.saved_states.specs.Positions.{EndsWith, dropped_after}
use Rattle.saved_states.specs.Steps.{StepList, last_position}
use Rattle.saved_states.proofs.Rising.{IsPlace, non_decreasing}
use Rattle.saved_states.proofs.Cut.{restored}
use Rattle.std.proofs.lemmas.List.{length-take-le}
use Rattle.saved_states.proofs.Saved.restore.Goals as goal

pub count_up_to-kept-requires : goal.count_up_to-kept-requires
count_up_to-kept-requires c =
    subst (λ (v : StepList). IsNonDecreasingBy (λ step. step.0) v) (sym c.deref.ensures.value)
    (non_decreasing c.self.inside.first c.self.inside.steps.items c.self.invariant)

pub returns : goal.returns
returns c =
    let a = c.self.inside in
    let n = c.count_up_to-kept.result in
    let place = subst (λ (v : StepList). IsPlace c.args.position v n) c.deref.ensures.value
    c.count_up_to-kept.ensures.place in
    let last = c.last_position.ensures
    ∙ ap (λ (v : StepList). last_position a.first (take n v)) c.deref-3.ensures.value in
    subst (λ (p : ℕ). EndsWith (dropped_after c.args.position c.args.self.now) (p, c.undo.new.view)) (sym last)
    (restored c.args.position n a.first a.newest c.in_ok-view.view c.undo.new.view a.steps.items
    c.deref-2.result.now c.args.self.now place c.self.view_is c.deref-2.ensures.value
    c.in_ok-view.ensures c.in_ok-undo.ensures)

pub slice_bounds-last_position-end : goal.slice_bounds-last_position-end
slice_bounds-last_position-end c =
    sym (length-take-le c.count_up_to-kept.result c.deref-3.result.now
    (omega (arith, c.count_up_to-kept.ensures.within, c.deref.ensures.len, c.deref-3.ensures.len)))
