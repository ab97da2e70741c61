use Rattle.std.proofs.Common.{Option, IfSome, ap, ◌∙◌, sym, subst}
use Rattle.local_run.specs.Opening.{spent}
use Rattle.region_core.specs.declared.live.Live.{Live}
use Rattle.region_core.specs.Live.{IsLive}
use Rattle.region_core.proofs.Kept.{spent_sound, still_sound}
use Rattle.region_core.proofs.Shown.{seen_as}
use Rattle.region_core.proofs.region.Region.take.Goals as goal

pub invariant_of-self : goal.invariant_of-self
invariant_of-self c = spent_sound c.self.inside.place c.self.inside.live c.take.new.self c.self.invariant
    c.take.ensures.after

pub invariant_of-result : goal.invariant_of-result
invariant_of-result c = still_sound c.self.inside.place c.self.inside.live c.take.result c.self.invariant
    (subst (λ (o : Option Live). IfSome o (IsLive c.self.inside.place)) (sym c.take.ensures.value)
    c.self.invariant.alive)

pub returns-clause-taken : goal.returns-clause-taken
returns-clause-taken c =
    ap (seen_as c.self.inside.place.home c.self.inside.place.floor) c.take.ensures.value ∙ c.self.view_is

pub returns-clause-spent : goal.returns-clause-spent
returns-clause-spent c =
    ap (seen_as c.self.inside.place.home c.self.inside.place.floor) c.take.ensures.after ∙ ap spent c.self.view_is
