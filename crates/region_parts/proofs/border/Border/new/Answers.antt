use Rattle.std.proofs.Common.{ℕ, ◌+◌, ◌≤◌, ap, sym, subst, ◌∙◌, arith}
use Rattle.region_parts.proofs.Borders.{border_is, start_within, end_is_past}
use Rattle.region_parts.proofs.border.Border.new.Goals as goal

pub first_unseen-first-requires : goal.first_unseen-first-requires
first_unseen-first-requires c =
    let grid = c.args.home.now.grid in
    let region = c.requires in
    let sizes = c.strip-strip.ensures.kept in
    let le : c.args.home.now.number ≤ grid.regions = omega arith in
    let within = start_within grid.columns grid.regions c.args.home.now.number sizes.regions le in
    let few = sizes.most_columns in
    let is = c.strip-strip.ensures.strip.first in
    omega arith

pub end_unseen-end-requires-clause-some : goal.end_unseen-end-requires-clause-some
end_unseen-end-requires-clause-some c =
    let grid = c.args.home.now.grid in
    let sizes = c.strip-strip.ensures.kept in
    subst (λ (n : ℕ). 1 ≤ n) (sym c.strip-strip.ensures.strip.end)
    (end_is_past grid.columns grid.regions c.args.home.now.number sizes.regions sizes.fits)

pub returns : goal.returns
returns c =
    let strip = c.strip-strip.ensures.strip in
    border_is c.args.home.now _ c.strip-strip.ensures.kept c.requires
    record {
      none_before = c.first_unseen-first.ensures.none_before;
      before = λ some. c.first_unseen-first.ensures.before some ∙ ap (λ (n : ℕ). n + 1) strip.first;
      none_after = λ none. c.end_unseen-end.ensures.none_after none ∙ strip.end;
      after = λ more. c.end_unseen-end.ensures.after more ∙ strip.end;
    }
