-- The rows that are set are all that there are.
use Rattle.std.proofs.Common.{◌≡◌, ◌≤◌, ◌<◌, [], ◌∷◌, length, get_or, sym, ap, subst, refl, arith, ◌∙◌, None}
use Rattle.region_view.specs.Setting.{RowList, AreRows, set_rows}
use Rattle.region_view.proofs.view.View.swap.Goals as goal

one_row : (rows : RowList) → 1 ≤ length rows → length rows < 2 → get_or rows 0 (0, None) ∷ [] ≡ rows
one_row [] some few = absurd (omega arith)
one_row (r ∷ []) some few = refl
one_row (r ∷ s ∷ rows) some few = absurd (omega arith)

two_rows : (rows : RowList) → AreRows rows → 2 ≤ length rows →
    get_or rows 0 (0, None) ∷ get_or rows 1 (0, None) ∷ [] ≡ rows
two_rows [] are some = absurd (omega arith)
two_rows (r ∷ []) are some = absurd (omega arith)
two_rows (r ∷ s ∷ []) are some = refl
two_rows (r ∷ s ∷ t ∷ rows) are some = absurd are

pub returns-in_ok-replace-in-len1-clause-view : goal.returns-in_ok-replace-in-len1-clause-view
returns-in_ok-replace-in-len1-clause-view c =
    c.in_ok-replace-in-len1.ensures.view
    ∙ ap (set_rows c.args.self.now)
    (one_row c.as_slice.result.now c.in-len1.len_at_least c.in-len1.len_below ∙ c.as_slice.ensures.value)

pub returns-in_ok-rows-in-len2-up-clause-view : goal.returns-in_ok-rows-in-len2-up-clause-view
returns-in_ok-rows-in-len2-up-clause-view c =
    c.in_ok-rows-in-len2-up.ensures.view
    ∙ ap (set_rows c.args.self.now)
    (two_rows c.as_slice.result.now (subst AreRows (sym c.as_slice.ensures.value) c.as_slice.ensures.rows) c.in-len2-up.len_at_least
    ∙ c.as_slice.ensures.value)
