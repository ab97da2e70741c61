use Rattle.std.proofs.Common.{Some, refl, sym, ap, ◌∙◌, subst, arith}
use Rattle.local_run.specs.Opening.{RegionData, spent}
use Rattle.region_core.specs.Live.{region_in}
use Rattle.region_core.specs.RunsOn.{RunsOn}
use Rattle.region_core.proofs.Kept.{still_sound, spent_sound, body_is}
use Rattle.region_core.proofs.Shown.{seen_as}
use Rattle.region_core.proofs.region.Region.run_on.Goals as goal

pub returns-in_default-clause-ran : goal.returns-in_default-clause-ran
returns-in_default-clause-ran c = (0, (omega arith), (refl, c.self.view_is))

pub run_on-requires : goal.run_on-requires
run_on-requires c = record {
  live = body_is c.self.inside.place c.self.inside.live c.in-Some.live c.self.invariant c.in-Some.is;
}

pub invariant_of-self-in-Ok : goal.invariant_of-self-in-Ok
invariant_of-self-in-Ok c = still_sound c.self.inside.place c.self.inside.live
    (Some c.run_on.new.self) c.self.invariant c.in-Ok.ensures.live

pub returns-in-Ok-clause-ran : goal.returns-in-Ok-clause-ran
returns-in-Ok-clause-ran c =
    let home = c.self.inside.place.home in
    let floor = c.self.inside.place.floor in
    subst (λ (old : RegionData).
    RunsOn c.args.bound.now c.args.so_far old (region_in c.self.inside.place c.run_on.new.self) c.in-Ok.so_far)
    (ap (seen_as home floor) (sym c.in-Some.is) ∙ c.self.view_is) c.in-Ok.ensures.ran

pub invariant_of-self-in-Err : goal.invariant_of-self-in-Err
invariant_of-self-in-Err c = spent_sound c.self.inside.place c.self.inside.live c.let_go.new.live
    c.self.invariant c.let_go.ensures

pub returns-in-Err-clause-spent : goal.returns-in-Err-clause-spent
returns-in-Err-clause-spent c =
    ap (seen_as c.self.inside.place.home c.self.inside.place.floor) c.let_go.ensures ∙ ap spent c.self.view_is
