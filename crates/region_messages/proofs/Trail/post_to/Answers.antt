use Rattle.std.proofs.Common.{inl, sym, subst, ◌∙◌}
use Rattle.region_messages.specs.Trails.{IsAmong, Rises}
use Rattle.region_messages.proofs.Parts.{rises_below, rises_replaced}
use Rattle.region_messages.proofs.Copied.{among_first, among_filled, among_cut}
use Rattle.region_messages.proofs.Trail.post_to.Goals.{in-Some+in_ok-replace_from, in_default}
use Rattle.region_messages.proofs.Trail.post_to.Goals as goal

pub returns-in_err-replace_from-clause-among : goal.returns-in_err-replace_from-clause-among
returns-in_err-replace_from-clause-among c = λ m h.
    inl (among_cut _ c.in-Some.next c.args.copy.now _ _ m c.keep_first.ensures.first c.in_err-replace_from.ensures.cut h)

pub returns-clause-among : goal.returns-clause-among
returns-clause-among c = λ m h. elim c.match-stamp_at.branch [
  | in-Some+in_ok-replace_from w ↦ among_filled _ w.in-Some.next c.args.copy.now c.args.self.now _ _ m
      c.keep_first.ensures.first w.in_ok-replace_from.ensures.replaced (subst (IsAmong m) w.copy-is h)
  | in_default w ↦ inl (among_first _ c.args.copy.now m (subst (IsAmong m) (w.copy-is ∙ c.keep_first.ensures.first) h))
]

pub returns-in_err-replace_from-clause-rises : goal.returns-in_err-replace_from-clause-rises
returns-in_err-replace_from-clause-rises c =
    subst Rises (sym c.in_err-replace_from.ensures.cut) (rises_below c.in-Some.next _ c.keep_first.ensures.rises)

pub returns-clause-rises : goal.returns-clause-rises
returns-clause-rises c = elim c.match-stamp_at.branch [
  | in-Some+in_ok-replace_from w ↦ subst Rises (sym (w.copy-is ∙ w.in_ok-replace_from.ensures.replaced))
      (rises_replaced w.in-Some.next _ c.args.self.now
      (rises_below w.in-Some.next _ c.keep_first.ensures.rises) (subst Rises c.self.view_is c.self.invariant))
  | in_default w ↦ subst Rises (sym w.copy-is) c.keep_first.ensures.rises
]
