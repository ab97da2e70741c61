use Rattle.std.proofs.Common.{sym, subst, ◌∙◌}
use Rattle.std.proofs.lemmas.Bool.{false≢true}
use Rattle.region_view.specs.Setting.{AreRows, RowList}
use Rattle.local_run.specs.Weaving.{AreOthers}
use Rattle.region_parts.proofs.Hindrances.{within_two, others_none, others_one, others_two}
use Rattle.region_parts.proofs.aside.have_common.Goals as goal

pub returns-then-has_row : goal.returns-then-has_row
returns-then-has_row c = λ off. absurd (false≢true (sym off ∙ c.if-has_row.true))

pub returns-else-has_row : goal.returns-else-has_row
returns-else-has_row c = λ off.
    subst (λ (rows : RowList). AreOthers rows c.args.b.now) c.as_slice.ensures.value
    (others_two c.as_slice.result.now c.args.b.now _
    (subst AreRows (sym c.as_slice.ensures.value) c.as_slice.ensures.rows) c.in-len2-up.len_at_least
    (c.has_row-in-len2-up.ensures c.if-has_row.false) (c.has_row-else-has_row.ensures off))

pub returns-in-len1 : goal.returns-in-len1
returns-in-len1 c = λ off.
    subst (λ (rows : RowList). AreOthers rows c.args.b.now) c.as_slice.ensures.value
    (others_one c.as_slice.result.now c.args.b.now _ c.in-len1.len_at_least c.in-len1.len_below
    (c.has_row.ensures off))

pub returns-in-empty : goal.returns-in-empty
returns-in-empty c = λ off.
    subst (λ (rows : RowList). AreOthers rows c.args.b.now) c.as_slice.ensures.value
    (others_none c.as_slice.result.now c.args.b.now c.in-empty.len_below)

pub bounds-row-0 : goal.bounds-row-0
bounds-row-0 c = c.in-len1.len_at_least

pub bounds-first-0 : goal.bounds-first-0
bounds-first-0 c = within_two _ c.in-len2-up.len_at_least

pub bounds-second-1 : goal.bounds-second-1
bounds-second-1 c = c.in-len2-up.len_at_least
