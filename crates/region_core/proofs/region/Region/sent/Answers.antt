use Rattle.region_core.proofs.Shown.{sent_shown, seen_as}
use Rattle.region_core.proofs.Kept.{body_is, kept_is}
use Rattle.std.proofs.Common.{◌≡◌, None, inl, ap, sym, subst, refl, ◌∙◌}
use Rattle.local_run.specs.Opening.{RegionData}
use Rattle.region_core.proofs.region.Region.sent.Goals as goal

pub returns-in-Some-clause-kept : goal.returns-in-Some-clause-kept
returns-in-Some-clause-kept c = kept_is _ _ _ c.self.view_is c.self.invariant

pub returns-in-None-clause-kept : goal.returns-in-None-clause-kept
returns-in-None-clause-kept c = kept_is _ _ _ c.self.view_is c.self.invariant

pub returns-in-Some-clause-value : goal.returns-in-Some-clause-value
returns-in-Some-clause-value c = sent_shown (λ t. t.now) c.sent_to.result _ _ _ c.in-Some.live _ c.args.to c.self.view_is c.in-Some.is c.sent_to.ensures

pub returns-in-None-clause-value : goal.returns-in-None-clause-value
returns-in-None-clause-value c = inl (subst (λ (region : RegionData). region.run ≡ None)
    (ap (seen_as c.self.inside.place.home c.self.inside.place.floor) (sym c.in-None.is) ∙ c.self.view_is) refl)

pub sent_to-requires : goal.sent_to-requires
sent_to-requires c =
    body_is c.self.inside.place c.self.inside.live c.in-Some.live c.self.invariant c.in-Some.is
