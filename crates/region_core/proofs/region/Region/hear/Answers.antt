use Rattle.std.proofs.Common.{Some, sym, ap, ◌∙◌, inl, refl, subst, ◌≡◌}
use Rattle.std.proofs.lemmas.Option.{none-some, same_Some}
use Rattle.std.specs.Result.{result_ok}
use Rattle.local_run.specs.declared.answers.Hearing.TheVariants.{Apart}
use Rattle.region_core.specs.Live.{run_in}
use Rattle.region_core.proofs.Kept.{still_sound, spent_sound, body_is}
use Rattle.region_core.proofs.Shown.{seen_as}
use Rattle.region_core.proofs.Pairs.{heard_region, heard_hearable, no_apart, region_of}
use Rattle.local_run.specs.Opening.{spent, RegionData}
use Rattle.std.specs.Prelude.{None}
use Rattle.region_core.proofs.region.Region.hear.Goals as goal

pub hear-requires : goal.hear-requires
hear-requires c = record {
  live = body_is c.self.inside.place c.self.inside.live c.in-Some-live.live c.self.invariant c.in-Some-live.is;
  region = region_of c.self.inside.place.home c.from.inside.place.home _ _ c.self.inside.live c.from.inside.live
      c.args.self.now c.args.from.now c.self.view_is c.from.view_is c.in-Some.ensures.0 c.from.invariant.place.home;
}

pub invariant_of-self-in-Ok : goal.invariant_of-self-in-Ok
invariant_of-self-in-Ok c =
    let home = c.self.inside.place.home in
    let floor = c.self.inside.place.floor in
    still_sound c.self.inside.place c.self.inside.live (Some c.hear.new.self) c.self.invariant
    (c.in-Ok.ensures.live (heard_hearable c.self.inside.place c.from.inside.place c.self.inside.live
    c.from.inside.live c.args.self.now c.args.from.now c.in-Some.sent.now c.self.view_is c.from.view_is
    c.from.invariant c.in-Some.ensures.0 c.in-Some.ensures.1))

pub invariant_of-self-in-Err : goal.invariant_of-self-in-Err
invariant_of-self-in-Err c = spent_sound c.self.inside.place c.self.inside.live c.let_go.new.live
    c.self.invariant c.let_go.ensures

pub returns-in-Ok-clause-apart : goal.returns-in-Ok-clause-apart
returns-in-Ok-clause-apart c = (
  λ is. absurd (no_apart c.from.inside.place.home.number c.in-Some.sent.now
      (run_in c.self.inside.place.floor c.in-Some-live.live) (run_in c.self.inside.place.floor c.hear.new.self)
      c.in-Ok.answer c.in-Ok.ensures.hears
      (same_Some c.in-Ok.answer Apart (ap result_ok is))),
  λ apart. absurd (c.in-Some.ensures.0 apart),
)

pub returns-in-Ok-clause-hears : goal.returns-in-Ok-clause-hears
returns-in-Ok-clause-hears c =
    heard_region c.self.inside.place.home c.from.inside.place.home c.self.inside.place.floor c.from.inside.place.floor
    c.in-Some-live.live c.hear.new.self c.from.inside.live c.args.self.now c.args.from.now
    c.in-Some.sent.now c.in-Ok.answer
    (ap (seen_as c.self.inside.place.home c.self.inside.place.floor) (sym c.in-Some-live.is) ∙ c.self.view_is)
    c.from.view_is c.in-Some.ensures.0 c.in-Some.ensures.1
    c.in-Ok.ensures.hears

pub returns-in-Err-clause-apart : goal.returns-in-Err-clause-apart
returns-in-Err-clause-apart c = (
  λ is. absurd (none-some Apart (ap result_ok is)),
  λ apart. absurd (c.in-Some.ensures.0 apart),
)

pub returns-in-Err-clause-spent : goal.returns-in-Err-clause-spent
returns-in-Err-clause-spent c =
    ap (seen_as c.self.inside.place.home c.self.inside.place.floor) c.let_go.ensures ∙ ap spent c.self.view_is

pub returns-in_default-live-clause-apart : goal.returns-in_default-live-clause-apart
returns-in_default-live-clause-apart c = (
  λ _. inl (subst (λ (region : RegionData). region.run ≡ None)
      (ap (seen_as c.self.inside.place.home c.self.inside.place.floor) (sym c.in_default-live.is) ∙ c.self.view_is) refl),
  λ _. refl,
)

pub returns-in_default-clause-apart : goal.returns-in_default-clause-apart
returns-in_default-clause-apart c = (λ _. c.in_default.ensures, λ _. refl)
