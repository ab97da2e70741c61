use Rattle.std.proofs.Common.{◌≡◌, ◌∙◌, ℕ, length, take, sym, ap, subst, refl, arith, Result, Ok, Err}
use Rattle.std.specs.Prelude.{OnErr}
use Rattle.std.proofs.lemmas.List.{length-take-le}
use Rattle.std.specs.List.Sorted.{IsNonDecreasingBy}
use Rattle.region_view.specs.Views.{ViewData}
use Rattle.saved_states.specs.Positions.{dropped_after}
use Rattle.saved_states.specs.Steps.{StepList, RiseAfter, last_position, rebuilt}
use Rattle.saved_states.proofs.Rising.{IsPlace, non_decreasing, rise_take, own_place, place_after}
use Rattle.saved_states.proofs.Cut.{AreUndone, none_undone, one_more_undone, undone_is_cut}
use Rattle.saved_states.proofs.Saved.drop_after.Goals as goal

pub count_up_to-kept-requires : goal.count_up_to-kept-requires
count_up_to-kept-requires c =
    subst (λ (v : StepList). IsNonDecreasingBy (λ step. step.0) v) (sym c.deref.ensures.value)
    (non_decreasing c.self.inside.first c.self.inside.steps.items c.self.invariant)

rise_left : (n first now : ℕ) (steps left : StepList) (newest view : ViewData) →
    RiseAfter first steps → now ≡ first → AreUndone n steps newest left view → RiseAfter now left
rise_left n first now steps left newest view r same undone_to =
    subst (λ (v : ℕ). RiseAfter v left) (sym same)
    (subst (RiseAfter first) (sym undone_to.steps) (rise_take n first steps r))

pub invariant_of-self : goal.invariant_of-self
invariant_of-self c =
    let a = c.self.inside in
    let l = c.loop-last in
    rise_left l.last a.first l.self-inside.first a.steps.items l.self-inside.steps.items a.newest
    l.self-inside.newest c.self.invariant l.invariant.1 l.invariant.2

pub invariant_of-self-in_err-swap : goal.invariant_of-self-in_err-swap
invariant_of-self-in_err-swap c =
    let a = c.self.inside in
    let l = c.loop-last in
    rise_left l.last a.first l.self-inside.first a.steps.items l.self-inside.steps.items a.newest
    l.self-inside.newest c.self.invariant l.invariant.1 l.invariant.2

on_err : {T E P : Type 0} (r : Result T E) → P → OnErr r P
on_err (Ok x) p = tt
on_err (Err e) p = p

pub returns-in_err-swap-clause-dropped_in_part : goal.returns-in_err-swap-clause-dropped_in_part
returns-in_err-swap-clause-dropped_in_part c =
    let a = c.self.inside in
    let l = c.loop-last in
    let steps = a.steps.items in
    let at = last_position a.first (take l.last steps) in
    let place = subst (λ (v : StepList). IsPlace c.args.position v c.count_up_to-kept.result)
    c.deref.ensures.value c.count_up_to-kept.ensures.place in
    on_err c.from_residual.result (
      at,
      place_after c.args.position l.last c.count_up_to-kept.result a.first steps c.self.invariant place
          c.loop-last-test.true l.invariant.2.within,
      ap (λ (v : ViewData). rebuilt l.self-inside.first v l.self-inside.steps.items)
          c.in_err-swap.ensures.unchanged.0
          ∙ ap (λ (v : ℕ). rebuilt v l.self-inside.newest l.self-inside.steps.items) l.invariant.1
          ∙ undone_is_cut at l.last a.first steps a.newest l.self-inside.steps.items
          l.self-inside.newest
          (own_place l.last a.first steps c.self.invariant l.invariant.2.within) l.invariant.2
          ∙ ap (dropped_after at) c.self.view_is,
    )

pub returns-clause-dropped : goal.returns-clause-dropped
returns-clause-dropped c =
    let a = c.self.inside in
    let l = c.loop-last in
    let steps = a.steps.items in
    let at_end : c.count_up_to-kept.result ≡ l.last = let low = l.invariant.0 in omega arith in
    let place = subst (λ (v : StepList). IsPlace c.args.position v c.count_up_to-kept.result)
    c.deref.ensures.value c.count_up_to-kept.ensures.place in
    ap (λ (v : ℕ). rebuilt v l.self-inside.newest l.self-inside.steps.items) l.invariant.1
    ∙ undone_is_cut c.args.position l.last a.first steps a.newest l.self-inside.steps.items
    l.self-inside.newest (subst (IsPlace c.args.position steps) at_end place) l.invariant.2
    ∙ ap (dropped_after c.args.position) c.self.view_is

pub loop-last-preserved : goal.loop-last-preserved
loop-last-preserved c =
    let a = c.self.inside in
    let l = c.loop-last in (
      omega arith,
      l.invariant.1,
      one_more_undone l.last a.steps.items l.self-inside.steps.items
          c.truncate.new.self.items a.newest l.self-inside.newest c.swap.new.self c.index.result.now
          (omega arith) l.invariant.2 c.index.ensures c.in_ok-swap.ensures.view c.truncate.ensures.items,
    )

pub loop-last-init : goal.loop-last-init
loop-last-init c =
    let all : c.len-last.result ≡ length c.self.inside.steps.items =
    c.len-last.ensures ∙ sym c.deref.ensures.len ∙ ap length c.deref.ensures.value in (
      omega (arith, c.count_up_to-kept.ensures.within, c.len-last.ensures, c.deref.ensures.len),
      refl,
      none_undone c.len-last.result c.self.inside.steps.items c.self.inside.newest all,
    )

pub index-requires : goal.index-requires
index-requires c =
    let l = c.loop-last in
    let left = ap length l.invariant.2.steps ∙ length-take-le l.last c.self.inside.steps.items l.invariant.2.within in
    omega (arith, left, c.loop-last-test.true, l.invariant.0, l.self-inside.steps.ok.0)
