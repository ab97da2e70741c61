use Rattle.std.proofs.Common.{arith, sym}
use Rattle.region_parts.proofs.Passed.{passed_more, passed_all, all_apart, all_aside, none_passed}
use Rattle.std.proofs.lemmas.Option.{none-some}
use Rattle.region_parts.proofs.aside.first_in_way.Goals as goal

pub overflow_add-next : goal.overflow_add-next
overflow_add-next c =
    let few = c.in-Some.ensures.few in
    let place = c.in-Some.ensures.place in
    omega arith

pub loop-i-preserved : goal.loop-i-preserved
loop-i-preserved c =
    passed_more c.args.home.now c.args.rows.now c.args.log.now c.args.kept c.loop-i.next c.in-Some.i
    c.loop-i.invariant c.in-Some.ensures.far (c.is_hindrance.ensures c.if-is_hindrance.false)

pub returns-clause-apart : goal.returns-clause-apart
returns-clause-apart c = λ none.
    all_apart c.args.home.now c.args.rows.now c.args.log.now c.args.kept
    (passed_all c.args.home.now c.args.rows.now c.args.log.now c.args.kept c.loop-i.next
    c.loop-i.invariant c.in_default.ensures.far)

pub returns-clause-aside : goal.returns-clause-aside
returns-clause-aside c = λ none.
    all_aside c.args.home.now c.args.rows.now c.args.log.now c.args.kept
    (passed_all c.args.home.now c.args.rows.now c.args.log.now c.args.kept c.loop-i.next
    c.loop-i.invariant c.in_default.ensures.far)

pub returns-then-is_hindrance-clause-aside : goal.returns-then-is_hindrance-clause-aside
returns-then-is_hindrance-clause-aside c = λ none. absurd (none-some _ (sym none))

pub returns-then-is_hindrance-clause-apart : goal.returns-then-is_hindrance-clause-apart
returns-then-is_hindrance-clause-apart c = λ none. absurd (none-some _ (sym none))

pub stamp-requires : goal.stamp-requires
stamp-requires c = record { within = c.in-Some.ensures.place.1 }

pub is_hindrance-requires-clause-within : goal.is_hindrance-requires-clause-within
is_hindrance-requires-clause-within c = c.in-Some.ensures.place.1

pub loop-i-init : goal.loop-i-init
loop-i-init c = none_passed c.args.home.now c.args.rows.now c.args.log.now c.args.kept
