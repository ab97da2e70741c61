use Rattle.std.proofs.Common.{◌∷◌, [], sym, ap, ◌∙◌, subst}
use Rattle.std.specs.Prelude.{IfSome}
use Rattle.std.specs.List.{Contains}
use Rattle.region_view.specs.Naming.{IsSameBut, IsMoved}
use Rattle.region_view.specs.Setting.{after_action}
use Rattle.region_parts.proofs.Results.{on_ok}
use Rattle.region_core.proofs.Told.{hit_leaves}
use Rattle.local_run.proofs.Aside.{here_first, later_still}
use Rattle.local_run.proofs.Untouched.{crossing_moves}
use Rattle.region_core.proofs.appending.tell.Goals as goal

pub returns-in-Cross-clause-stands : goal.returns-in-Cross-clause-stands
returns-in-Cross-clause-stands c =
    on_ok c.crossed.result _ _
    (λ stands. λ before here is. stands before here
    (subst (IsMoved c.in-Cross.stamp.first before) (sym (is ∙ ap (after_action before) c.in-Cross.is))
    (crossing_moves before c.in-Cross.stamp c.in-Cross.cell)))
    c.crossed.ensures.stands

pub returns-in-Some-clause-stands : goal.returns-in-Some-clause-stands
returns-in-Some-clause-stands c =
    let change = c.in-Hit.change in
    let ids = change.stamp.first ∷ change.stamp.second ∷ [] in
    let second : IfSome change.second (λ _. Contains ids change.stamp.second) =
    subst (λ b. IfSome b (λ _. Contains ids change.stamp.second)) (sym c.in-Some.is)
    (later_still change.stamp.first (change.stamp.second ∷ []) change.stamp.second
    (here_first change.stamp.second [])) in
    on_ok c.touched.result _ _
    (λ stands. λ before here is. stands before here
    (subst (IsSameBut ids before) (sym (is ∙ ap (after_action before) c.in-Hit.is))
    (hit_leaves before change ids (here_first change.stamp.first (change.stamp.second ∷ [])) second)))
    c.touched.ensures.stands

pub returns-in-None-clause-stands : goal.returns-in-None-clause-stands
returns-in-None-clause-stands c =
    let change = c.in-Hit.change in
    let ids = change.stamp.first ∷ [] in
    let none : IfSome change.second (λ _. Contains ids change.stamp.second) =
    subst (λ b. IfSome b (λ _. Contains ids change.stamp.second)) (sym c.in-None.is) tt in
    on_ok c.touched-in-None.result _ _
    (λ stands. λ before here is. stands before here
    (subst (IsSameBut ids before) (sym (is ∙ ap (after_action before) c.in-Hit.is))
    (hit_leaves before change ids (here_first change.stamp.first []) none)))
    c.touched-in-None.ensures.stands
