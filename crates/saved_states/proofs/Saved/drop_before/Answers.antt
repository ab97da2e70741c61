use Rattle.std.proofs.Common.{◌∙◌, ◌-◌, ℕ, length, take, drop, sym, ap, subst, arith}
use Rattle.std.specs.List.Sorted.{IsNonDecreasingBy}
use Rattle.saved_states.specs.Positions.{dropped_before}
use Rattle.saved_states.specs.Steps.{StepList, RiseAfter, last_position, rebuilt}
use Rattle.saved_states.proofs.Rising.{IsPlace, non_decreasing, rise_drop}
use Rattle.saved_states.proofs.Cut.{turned, dropped}
use Rattle.std.proofs.lemmas.List.{length-take-le}
use Rattle.saved_states.proofs.Saved.drop_before.Goals as goal

pub count_up_to-dropped-requires : goal.count_up_to-dropped-requires
count_up_to-dropped-requires c =
    subst (λ (v : StepList). IsNonDecreasingBy (λ step. step.0) v) (sym c.deref.ensures.value)
    (non_decreasing c.self.inside.first c.self.inside.steps.items c.self.invariant)

pub invariant_of-self : goal.invariant_of-self
invariant_of-self c =
    let n = c.count_up_to-dropped.result in
    let a = c.self.inside in
    let first = c.last_position-self-inside.ensures
    ∙ ap (λ (v : StepList). last_position a.first (take n v)) c.deref-2.ensures.value in
    let kept = c.truncate.ensures.items
    ∙ ap (take (c.len.result - n)) c.rotate_left.ensures.items
    ∙ turned n c.len.result a.steps.items
    (c.len.ensures ∙ c.rotate_left.ensures.len ∙ sym c.deref.ensures.len ∙ ap length c.deref.ensures.value) in
    subst (RiseAfter c.last_position-self-inside.result) (sym kept)
    (subst (λ (v : ℕ). RiseAfter v (drop n a.steps.items)) (sym first)
    (rise_drop n a.first a.steps.items c.self.invariant))

pub returns : goal.returns
returns c =
    let n = c.count_up_to-dropped.result in
    let a = c.self.inside in
    let first = c.last_position-self-inside.ensures
    ∙ ap (λ (v : StepList). last_position a.first (take n v)) c.deref-2.ensures.value in
    let kept = c.truncate.ensures.items
    ∙ ap (take (c.len.result - n)) c.rotate_left.ensures.items
    ∙ turned n c.len.result a.steps.items
    (c.len.ensures ∙ c.rotate_left.ensures.len ∙ sym c.deref.ensures.len ∙ ap length c.deref.ensures.value) in
    ap (λ (v : ℕ). rebuilt v a.newest c.truncate.new.self.items) first
    ∙ ap (rebuilt (last_position a.first (take n a.steps.items)) a.newest) kept
    ∙ sym (dropped c.args.position n a.first a.newest a.steps.items
    (subst (λ (v : StepList). IsPlace c.args.position v n) c.deref.ensures.value
    c.count_up_to-dropped.ensures.place))
    ∙ ap (dropped_before c.args.position) c.self.view_is

pub slice_bounds-last_position-end : goal.slice_bounds-last_position-end
slice_bounds-last_position-end c =
    sym (length-take-le c.count_up_to-dropped.result c.deref-2.result.now
    (omega (arith, c.count_up_to-dropped.ensures.within, c.deref.ensures.len, c.deref-2.ensures.len)))
