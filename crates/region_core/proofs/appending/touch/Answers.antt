use Rattle.std.proofs.Common.{[], sym, subst, arith}
use Rattle.region_view.specs.Setting.{AreRows}
use Rattle.region_parts.proofs.Results.{on_ok}
use Rattle.local_run.proofs.Touched.{no_number, one_number, two_numbers, same_but_at}
use Rattle.region_core.proofs.appending.touch.Goals as goal

pub returns-in-empty-clause-stands : goal.returns-in-empty-clause-stands
returns-in-empty-clause-stands c =
    let slice = c.as_slice.result.now in
    on_ok c.touched.result _ _
    (λ stands. λ before here is. stands before here
    (same_but_at before c.args.view.now c.args.rows.now slice [] c.as_slice.ensures.value
    (no_number slice c.in-empty.len_below) is))
    c.touched.ensures.stands

pub returns-in-len1-clause-stands : goal.returns-in-len1-clause-stands
returns-in-len1-clause-stands c =
    let slice = c.as_slice.result.now in
    on_ok c.touched-in-len1.result _ _
    (λ stands. λ before here is. stands before here
    (same_but_at before c.args.view.now c.args.rows.now slice _ c.as_slice.ensures.value
    (one_number slice _ c.in-len1.len_at_least c.in-len1.len_below) is))
    c.touched-in-len1.ensures.stands

pub returns-in-len2-up-clause-stands : goal.returns-in-len2-up-clause-stands
returns-in-len2-up-clause-stands c =
    let slice = c.as_slice.result.now in
    on_ok c.touched-in-len2-up.result _ _
    (λ stands. λ before here is. stands before here
    (same_but_at before c.args.view.now c.args.rows.now slice _ c.as_slice.ensures.value
    (two_numbers slice _ (subst AreRows (sym c.as_slice.ensures.value) c.as_slice.ensures.rows)
    c.in-len2-up.len_at_least) is))
    c.touched-in-len2-up.ensures.stands

pub bounds-row-0 : goal.bounds-row-0
bounds-row-0 c = c.in-len1.len_at_least

pub bounds-first-0 : goal.bounds-first-0
bounds-first-0 c = let some = c.in-len2-up.len_at_least in omega arith

pub bounds-second-1 : goal.bounds-second-1
bounds-second-1 c = c.in-len2-up.len_at_least

pub returns-in-len2-up-clause-queue : goal.returns-in-len2-up-clause-queue
returns-in-len2-up-clause-queue c = c.touched-in-len2-up.ensures.same

pub returns-in-len1-clause-queue : goal.returns-in-len1-clause-queue
returns-in-len1-clause-queue c = c.touched-in-len1.ensures.same

pub returns-in-empty-clause-queue : goal.returns-in-empty-clause-queue
returns-in-empty-clause-queue c = c.touched.ensures.same
