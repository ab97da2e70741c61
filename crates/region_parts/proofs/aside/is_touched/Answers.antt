use Rattle.std.proofs.Common.{sym, subst, arith, ◌∙◌}
use Rattle.region_view.specs.Setting.{AreRows, AreValidRows}
use Rattle.region_messages.specs.Trails.{IsAmong}
use Rattle.region_parts.specs.Aside.{TouchAfter}
use Rattle.region_parts.proofs.Hindrances.{of_one, of_two, first_valid, second_valid, of_none, within_two}
use Rattle.std.proofs.lemmas.Bool.{false≢true}
use Rattle.region_parts.proofs.aside.is_touched.Goals as goal

pub do_touch-requires-clause-other : goal.do_touch-requires-clause-other
do_touch-requires-clause-other c = first_valid c.args.home.now.rules c.args.home.now.grid c.as_slice.result.now _
    (subst (AreValidRows c.args.home.now.rules c.args.home.now.grid) (sym c.as_slice.ensures.value) c.requires.rows.valid)
    c.in-len1.len_at_least

pub returns-in-len1 : goal.returns-in-len1
returns-in-len1 c = λ off other among.
    of_one (TouchAfter c.args.home.now c.args.at.now c.args.row) c.as_slice.result.now _
    c.in-len1.len_at_least c.in-len1.len_below (c.do_touch.ensures off) other
    (subst (IsAmong other) (sym c.as_slice.ensures.value) among)

pub do_touch-requires-in-len2-up-clause-other : goal.do_touch-requires-in-len2-up-clause-other
do_touch-requires-in-len2-up-clause-other c = first_valid c.args.home.now.rules c.args.home.now.grid
    c.as_slice.result.now _
    (subst (AreValidRows c.args.home.now.rules c.args.home.now.grid) (sym c.as_slice.ensures.value) c.requires.rows.valid)
    (let some = c.in-len2-up.len_at_least in omega arith)

pub do_touch-requires-else-do_touch-clause-other : goal.do_touch-requires-else-do_touch-clause-other
do_touch-requires-else-do_touch-clause-other c = second_valid c.args.home.now.rules c.args.home.now.grid
    c.as_slice.result.now _
    (subst (AreValidRows c.args.home.now.rules c.args.home.now.grid) (sym c.as_slice.ensures.value) c.requires.rows.valid)
    c.in-len2-up.len_at_least

pub returns-else-do_touch : goal.returns-else-do_touch
returns-else-do_touch c = λ off other among.
    of_two (TouchAfter c.args.home.now c.args.at.now c.args.row) c.as_slice.result.now _
    (subst AreRows (sym c.as_slice.ensures.value) c.as_slice.ensures.rows) c.in-len2-up.len_at_least
    (c.do_touch-in-len2-up.ensures c.if-do_touch.false) (c.do_touch-else-do_touch.ensures off) other
    (subst (IsAmong other) (sym c.as_slice.ensures.value) among)

pub returns-then-do_touch : goal.returns-then-do_touch
returns-then-do_touch c = λ off. absurd (false≢true (sym off ∙ c.if-do_touch.true))

pub returns-in-empty : goal.returns-in-empty
returns-in-empty c = λ off other among.
    of_none (TouchAfter c.args.home.now c.args.at.now c.args.row) c.as_slice.result.now c.in-empty.len_below other
    (subst (IsAmong other) (sym c.as_slice.ensures.value) among)

pub do_touch-requires-else-do_touch-clause-row : goal.do_touch-requires-else-do_touch-clause-row
do_touch-requires-else-do_touch-clause-row c = c.requires.row

pub do_touch-requires-else-do_touch-clause-place : goal.do_touch-requires-else-do_touch-clause-place
do_touch-requires-else-do_touch-clause-place c = c.requires.rows.place

pub do_touch-requires-in-len2-up-clause-row : goal.do_touch-requires-in-len2-up-clause-row
do_touch-requires-in-len2-up-clause-row c = c.requires.row

pub do_touch-requires-in-len2-up-clause-place : goal.do_touch-requires-in-len2-up-clause-place
do_touch-requires-in-len2-up-clause-place c = c.requires.rows.place

pub do_touch-requires-clause-place : goal.do_touch-requires-clause-place
do_touch-requires-clause-place c = c.requires.rows.place

pub bounds-other-0 : goal.bounds-other-0
bounds-other-0 c = c.in-len1.len_at_least

pub bounds-first-0 : goal.bounds-first-0
bounds-first-0 c = within_two _ c.in-len2-up.len_at_least

pub bounds-second-1 : goal.bounds-second-1
bounds-second-1 c = c.in-len2-up.len_at_least
