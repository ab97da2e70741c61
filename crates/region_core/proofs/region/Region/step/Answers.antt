use Rattle.std.proofs.Common.{Option, Some, ap, refl, sym, subst, ◌∙◌}
use Rattle.std.specs.Prelude.{option_map}
use Rattle.region_core.specs.declared.live.Live.{Live}
use Rattle.local_run.specs.Opening.{RegionData, spent}
use Rattle.region_core.specs.Live.{run_in}
use Rattle.local_run.specs.Steps.{StepsOn}
use Rattle.region_core.proofs.Bounded.{of_some, of_none, steps_spent}
use Rattle.region_core.proofs.Kept.{spent_sound, body_is, still_sound}
use Rattle.region_core.proofs.Shown.{seen_as}
use Rattle.region_core.proofs.region.Region.step.Goals as goal

pub returns-in-Ok-Some-clause-step : goal.returns-in-Ok-Some-clause-step
returns-in-Ok-Some-clause-step c =
    let home = c.self.inside.place.home in
    let floor = c.self.inside.place.floor in
    let left = run_in floor c.step.new.self in
    record {
      home = ap (λ (region : RegionData). region.home) c.self.view_is;
      floor = ap (λ (region : RegionData). region.floor) c.self.view_is;
      run = subst (λ (region : RegionData).
          StepsOn region.home region.run c.in-Ok-Some.step (Some left)) c.self.view_is
          (subst (λ (o : Option Live).
          StepsOn home (option_map (run_in floor) o) c.in-Ok-Some.step (Some left))
          (sym c.in-Some.is) (left, (of_some _ _ _ _ c.in-Ok-Some.field-0-is c.in-Ok-Some.ensures.steps).1, refl));
    }

pub step-requires : goal.step-requires
step-requires c = record {
  live = body_is c.self.inside.place c.self.inside.live c.in-Some.live c.self.invariant c.in-Some.is;
}

pub invariant_of-self-in-Err : goal.invariant_of-self-in-Err
invariant_of-self-in-Err c =
    spent_sound c.self.inside.place c.self.inside.live c.let_go.new.live c.self.invariant
    c.let_go.ensures

pub returns-in-Err-clause-spent : goal.returns-in-Err-clause-spent
returns-in-Err-clause-spent c =
    ap (seen_as c.self.inside.place.home c.self.inside.place.floor) c.let_go.ensures ∙ ap spent c.self.view_is

pub invariant_of-self-in-Ok-Some : goal.invariant_of-self-in-Ok-Some
invariant_of-self-in-Ok-Some c = still_sound c.self.inside.place c.self.inside.live (Some c.step.new.self) c.self.invariant c.in-Ok-Some.ensures.live

pub unreachable-requires : goal.unreachable-requires
unreachable-requires c = (of_none _ _ _ c.in-Ok-None.field-0-is c.in-Ok-None.ensures.steps).0

pub returns-in_default-clause-step : goal.returns-in_default-clause-step
returns-in_default-clause-step c = steps_spent c.self.inside.place.home c.self.inside.place.floor c.self.inside.live c.args.self.now c.in_default.is c.self.view_is
