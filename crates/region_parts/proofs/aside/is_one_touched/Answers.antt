use Rattle.std.proofs.Common.{sym, subst, arith, ◌∙◌}
use Rattle.region_view.specs.Setting.{AreRows}
use Rattle.region_messages.specs.Trails.{IsAmong}
use Rattle.region_parts.specs.Aside.{TouchAfter, IsValidBack}
use Rattle.region_parts.proofs.Hindrances.{of_one, of_two, first_back, second_back, of_none, within_two}
use Rattle.std.proofs.lemmas.Bool.{false≢true}
use Rattle.region_parts.proofs.aside.is_one_touched.Goals as goal

pub is_touched-requires-clause-row : goal.is_touched-requires-clause-row
is_touched-requires-clause-row c = first_back c.args.home.now c.as_slice.result.now _
    (subst AreRows (sym c.as_slice.ensures.value) c.as_slice.ensures.rows)
    (subst (IsValidBack c.args.home.now) (sym c.as_slice.ensures.value) c.requires.back) c.in-len1.len_at_least

pub returns-in-len1 : goal.returns-in-len1
returns-in-len1 c = λ off row other among also.
    of_one (λ r. TouchAfter c.args.home.now c.args.at.now r other) c.as_slice.result.now _
    c.in-len1.len_at_least c.in-len1.len_below (c.is_touched.ensures off other also) row
    (subst (IsAmong row) (sym c.as_slice.ensures.value) among)

pub is_touched-requires-in-len2-up-clause-row : goal.is_touched-requires-in-len2-up-clause-row
is_touched-requires-in-len2-up-clause-row c = first_back c.args.home.now c.as_slice.result.now _
    (subst AreRows (sym c.as_slice.ensures.value) c.as_slice.ensures.rows)
    (subst (IsValidBack c.args.home.now) (sym c.as_slice.ensures.value) c.requires.back)
    (let some = c.in-len2-up.len_at_least in omega arith)

pub is_touched-requires-else-is_touched-clause-row : goal.is_touched-requires-else-is_touched-clause-row
is_touched-requires-else-is_touched-clause-row c = second_back c.args.home.now c.as_slice.result.now _
    (subst AreRows (sym c.as_slice.ensures.value) c.as_slice.ensures.rows)
    (subst (IsValidBack c.args.home.now) (sym c.as_slice.ensures.value) c.requires.back)
    c.in-len2-up.len_at_least

pub returns-else-is_touched : goal.returns-else-is_touched
returns-else-is_touched c = λ off row other among also.
    of_two (λ r. TouchAfter c.args.home.now c.args.at.now r other) c.as_slice.result.now _
    (subst AreRows (sym c.as_slice.ensures.value) c.as_slice.ensures.rows) c.in-len2-up.len_at_least
    (c.is_touched-in-len2-up.ensures c.if-is_touched.false other also)
    (c.is_touched-else-is_touched.ensures off other also) row
    (subst (IsAmong row) (sym c.as_slice.ensures.value) among)

pub returns-then-is_touched : goal.returns-then-is_touched
returns-then-is_touched c = λ off. absurd (false≢true (sym off ∙ c.if-is_touched.true))

pub returns-in-empty : goal.returns-in-empty
returns-in-empty c = λ off row other among also.
    of_none (λ r. TouchAfter c.args.home.now c.args.at.now r other) c.as_slice.result.now c.in-empty.len_below row
    (subst (IsAmong row) (sym c.as_slice.ensures.value) among)

pub is_touched-requires-else-is_touched-clause-rows : goal.is_touched-requires-else-is_touched-clause-rows
is_touched-requires-else-is_touched-clause-rows c = c.requires.rows

pub is_touched-requires-in-len2-up-clause-rows : goal.is_touched-requires-in-len2-up-clause-rows
is_touched-requires-in-len2-up-clause-rows c = c.requires.rows

pub bounds-row-0 : goal.bounds-row-0
bounds-row-0 c = c.in-len1.len_at_least

pub bounds-first-0 : goal.bounds-first-0
bounds-first-0 c = within_two _ c.in-len2-up.len_at_least

pub bounds-second-1 : goal.bounds-second-1
bounds-second-1 c = c.in-len2-up.len_at_least
