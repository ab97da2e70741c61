-- The next disk is kept in each list or left out.
use Rattle.std.proofs.Common.{◌≡◌, ℕ, ◌+◌, ◌<◌, ◌≤◌, List, length, get_or, arith, sym, subst, ◌∙◌}
use mir.Val.{bool_byte}
use Rattle.std.specs.Prelude.{Option, Some}
use Rattle.fixed_motion.specs.declared.rules.Rules.{Rules}
use Rattle.fixed_motion.specs.declared.disk.Disk.{Disk}
use Rattle.event_rules.specs.Rounded.{IsReachOf}
use Rattle.region_view.specs.declared.action.Placed.{Placed}
use Rattle.region_view.specs.Views.{rows_in}
use Rattle.region_queue.specs.Finding.{IsMissed, AreKept}
use Rattle.region_queue.proofs.Keeping.{IsKeeping, keeping_none, keeping_more, keeping_all, byte_small}
use Rattle.region_queue.proofs.both.keep_both.Goals as goal

-- one row stands at a number
one_row : (p q : Placed) (o : Option Placed) → Some p ≡ o → o ≡ Some q → p ≡ q
one_row p q o here there = let e : Some p ≡ Some q = here ∙ there in cc

pub may_reach_either-requires : goal.may_reach_either-requires
may_reach_either-requires c = c.requires.base c.in-Some.one c.in-Some-get.other (sym c.in-Some.ensures) (sym c.in-Some-get.ensures)

pub loop-place-init : goal.loop-place-init
loop-place-init c =
    let Out : Disk → ℕ → Type 0 =
    λ disk i. IsMissed (λ rules. IsReachOf rules c.in-Some.one.disk c.in-Some-get.other.disk c.args.reach) disk (rows_in c.args.view.now i) in (
      keeping_none (Out c.in-Some.one.disk) c.args.near.now,
      subst (λ (xs : List ℕ). IsKeeping (Out c.in-Some-get.other.disk) c.args.near.now xs 0 0) (sym c.requires.same)
          (keeping_none (Out c.in-Some-get.other.disk) c.args.near.now),
    )

pub loop-place-preserved : goal.loop-place-preserved
loop-place-preserved c =
    let one = c.in-Some.one.disk in
    let other = c.in-Some-get.other.disk in
    let Such : Rules → Type 0 = λ rules. IsReachOf rules one other c.args.reach in
    let Out : Disk → ℕ → Type 0 = λ disk i. IsMissed Such disk (rows_in c.args.view.now i) in
    let before = c.loop-place.invariant in
    let may = c.in-Some-may_reach_either in
    let row = sym (c.compact-rows.ensures c.at-disk.result) in
    let lt : c.loop-place.place < length c.args.near.now = omega (arith, c.len-place-end.ensures) in
    let here : c.at-disk.result ≡ get_or c.loop-place.near c.loop-place.place 0 = c.at-disk.ensures in
    let there : c.at-disk.result ≡ get_or c.loop-place.near_other c.loop-place.place 0 =
    here ∙ before.0.ahead c.loop-place.place (omega arith) ∙ sym (before.1.ahead c.loop-place.place (omega arith)) in (
      subst (λ (xs : List ℕ). IsKeeping (Out one) c.args.near.now xs (c.loop-place.place + 1) (c.loop-place.kept + bool_byte c.first.result))
          (sym c.put.ensures)
          (keeping_more (Out one) c.args.near.now c.loop-place.near c.loop-place.place c.loop-place.kept c.at-disk.result
          c.first.result lt before.0 here
          (λ no. subst (λ (o : Option Placed). IsMissed Such one o) row (may.ensures.one (sym c.first.ensures ∙ no)))),
      subst (λ (xs : List ℕ). IsKeeping (Out other) c.args.near.now xs (c.loop-place.place + 1) (c.loop-place.kept_other + bool_byte c.second.result))
          (sym c.put-in-loop-place.ensures)
          (keeping_more (Out other) c.args.near.now c.loop-place.near_other c.loop-place.place c.loop-place.kept_other c.at-disk.result
          c.second.result lt before.1 there
          (λ no. subst (λ (o : Option Placed). IsMissed Such other o) row (may.ensures.other (sym c.second.ensures ∙ no)))),
    )

pub returns-clause-one : goal.returns-clause-one
returns-clause-one c = λ _ p q first second.
    let view = c.args.view.now in
    let one = c.in-Some.one in
    let other = c.in-Some-get.other in
    let Kept : Placed → Placed → List ℕ → Type 0 =
    λ p q xs. AreKept (λ i. IsMissed (λ rules. IsReachOf rules p.disk q.disk c.args.reach) p.disk (rows_in view i)) c.args.near.now xs in
    let past : length c.args.near.now ≤ c.loop-place.place = omega (arith, c.len-place-end.ensures) in
    subst (λ (q : Placed). Kept p q c.cut.new.self) (one_row other q (rows_in view c.args.second) c.in-Some-get.ensures second)
    (subst (λ (p : Placed). Kept p other c.cut.new.self) (one_row one p (rows_in view c.args.first) c.in-Some.ensures first)
    (subst (Kept one other) (sym c.cut.ensures)
    (keeping_all _ c.args.near.now c.loop-place.near c.loop-place.place c.loop-place.kept c.loop-place.invariant.0 past)))

pub returns-clause-other : goal.returns-clause-other
returns-clause-other c = λ _ p q first second.
    let view = c.args.view.now in
    let one = c.in-Some.one in
    let other = c.in-Some-get.other in
    let Kept : Placed → Placed → List ℕ → Type 0 =
    λ p q xs. AreKept (λ i. IsMissed (λ rules. IsReachOf rules p.disk q.disk c.args.reach) q.disk (rows_in view i)) c.args.near.now xs in
    let past : length c.args.near.now ≤ c.loop-place.place = omega (arith, c.len-place-end.ensures) in
    subst (λ (q : Placed). Kept p q c.cut-2.new.self) (one_row other q (rows_in view c.args.second) c.in-Some-get.ensures second)
    (subst (λ (p : Placed). Kept p other c.cut-2.new.self) (one_row one p (rows_in view c.args.first) c.in-Some.ensures first)
    (subst (Kept one other) (sym c.cut-2.ensures)
    (keeping_all _ c.args.near.now c.loop-place.near_other c.loop-place.place c.loop-place.kept_other c.loop-place.invariant.1 past)))

pub overflow_add-kept : goal.overflow_add-kept
overflow_add-kept c =
    let few = c.loop-place.invariant.0.few in
    omega (arith, byte_small c.first.result)

pub overflow_add-kept_other : goal.overflow_add-kept_other
overflow_add-kept_other c =
    let few = c.loop-place.invariant.1.few in
    omega (arith, byte_small c.second.result)
