use Rattle.std.proofs.Common.{◌≡◌, Option, sym, subst, ap, ◌∙◌, Some}
use Rattle.std.specs.Prelude.{option_map, MatchOption}
use Rattle.local_run.specs.Opening.{RegionData, spent}
use Rattle.local_run.specs.Running.{IsDueBefore, IsDueLater}
use Rattle.local_run.specs.Steps.{RegionSteps}
use Rattle.region_core.specs.declared.live.Live.{Live}
use Rattle.region_core.specs.Live.{run_in, region_in}
use Rattle.region_core.proofs.Bounded.{bounded_step, as_none, as_some, spent_before, spent_later}
use Rattle.region_core.proofs.Kept.{spent_sound, body_is, still_sound}
use Rattle.region_core.proofs.Shown.{seen_as}
use Rattle.local_run.specs.declared.answers.Step.TheVariants.{Spent}
use Rattle.region_core.proofs.region.Region.step_before.Goals.{then-is_before, else-is_before}
use Rattle.std.proofs.lemmas.Bool.{false≢true}
use Rattle.region_core.proofs.region.Region.step_before.Goals as goal

pub returns-in-Ok-clause-step : goal.returns-in-Ok-clause-step
returns-in-Ok-clause-step c =
    let home = c.self.inside.place.home in
    let floor = c.self.inside.place.floor in
    let bound = c.args.bound.now in
    let new = region_in c.self.inside.place c.step.new.self in
    let Made : RegionData → Type 0 = λ old. MatchOption c.in-Ok.last (IsDueLater bound old × (new ≡ old))
    (λ answer. IsDueBefore bound old × RegionSteps old answer new) in
    subst Made c.self.view_is
    (subst (λ (o : Option Live). Made (record { home = home; floor = floor; run = option_map (run_in floor) o }))
    (sym c.in-Some.is)
    (bounded_step c.self.inside.place bound c.in-Some.live c.step.new.self c.in-Ok.last c.in-Ok.ensures.steps))

pub step-requires : goal.step-requires
step-requires c = record {
  live = body_is c.self.inside.place c.self.inside.live c.in-Some.live c.self.invariant c.in-Some.is;
}

pub invariant_of-self-in-Err : goal.invariant_of-self-in-Err
invariant_of-self-in-Err c =
    spent_sound c.self.inside.place c.self.inside.live c.let_go.new.live c.self.invariant
    c.let_go.ensures

pub returns-in-Err-clause-spent : goal.returns-in-Err-clause-spent
returns-in-Err-clause-spent c =
    ap (seen_as c.self.inside.place.home c.self.inside.place.floor) c.let_go.ensures ∙ ap spent c.self.view_is

pub invariant_of-self-in-Ok : goal.invariant_of-self-in-Ok
invariant_of-self-in-Ok c = still_sound c.self.inside.place c.self.inside.live (Some c.step.new.self) c.self.invariant c.in-Ok.ensures.live

pub returns-in_default-clause-step : goal.returns-in_default-clause-step
returns-in_default-clause-step c =
    let home = c.self.inside.place.home in
    let floor = c.self.inside.place.floor in
    let bound = c.args.bound.now in
    elim c.if-is_before.branch [
      | then-is_before w ↦ as_some c.if-is_before.result Spent _ _ w.result-is (spent_before home floor bound
          c.self.inside.live c.args.self.now c.in_default.is c.self.view_is (c.is_before.ensures.0 w.if-is_before.true))
      | else-is_before w ↦ as_none c.if-is_before.result _ _ w.result-is (spent_later home floor bound
          c.self.inside.live c.args.self.now c.in_default.is c.self.view_is
          (λ before. false≢true (sym w.if-is_before.false ∙ c.is_before.ensures.1 before)))
    ]
