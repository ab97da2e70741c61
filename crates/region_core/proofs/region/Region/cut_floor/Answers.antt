use Rattle.std.proofs.Common.{Some, sym, subst, ap, ◌∙◌, Option}
use Rattle.std.specs.Prelude.{IfSome}
use Rattle.event_stamps.specs.Order.{Before, end_stamp}
use Rattle.local_run.specs.Opening.{RegionData, spent}
use Rattle.local_run.specs.Raising.{raised_region, HasNoneWaitingBelow}
use Rattle.local_run.specs.Entries.{entries_below}
use Rattle.local_run.specs.Keeping.{entries_of}
use Rattle.event_log.specs.Logged.{entries_in}
use Rattle.region_core.specs.declared.live.Live.{Live}
use Rattle.region_core.specs.Live.{IsLive, IsSound}
use Rattle.region_parts.specs.declared.place.Place.{Place}
use Rattle.region_parts.specs.Place.{at_floor}
use Rattle.region_core.proofs.Kept.{body_is, spent_sound}
use Rattle.region_core.proofs.Shown.{seen_as}
use Rattle.region_core.proofs.region.Region.cut_floor.Goals as goal

pub cut_floor-requires-clause-live : goal.cut_floor-requires-clause-live
cut_floor-requires-clause-live c =
    body_is c.self.inside.place c.self.inside.live c.in-Some.live c.self.invariant c.in-Some.is

pub cut_floor-requires-clause-in_time : goal.cut_floor-requires-clause-in_time
cut_floor-requires-clause-in_time c =
    subst (λ (region : RegionData). ¬ Before (end_stamp region.home.rules.end) c.args.to) (sym c.self.view_is)
    c.requires.in_time

pub cut_floor-requires-clause-none_waiting : goal.cut_floor-requires-clause-none_waiting
cut_floor-requires-clause-none_waiting c =
    subst (λ (region : RegionData). IfSome region.run (HasNoneWaitingBelow c.args.to))
    (sym (ap (seen_as c.self.inside.place.home c.self.inside.place.floor) (sym c.in-Some.is) ∙ c.self.view_is))
    c.requires.none_waiting

pub invariant_of-self : goal.invariant_of-self
invariant_of-self c = record {
  place = record {
    home = c.self.invariant.place.home;
    far = c.self.invariant.place.far;
    floor = subst (λ (region : RegionData). ¬ Before (end_stamp region.home.rules.end) c.args.to) (sym c.self.view_is)
        c.requires.in_time;
  };
  alive = subst (λ (o : Option Live). IfSome o (IsLive (at_floor c.args.to c.self.inside.place))) (sym c.in_default.is) tt;
}

pub returns-in_default-clause-raised : goal.returns-in_default-clause-raised
returns-in_default-clause-raised c =
    let home = c.self.inside.place.home in
    ap (seen_as home c.args.to) c.in_default.is
    ∙ ap (raised_region c.args.to) (ap (seen_as home c.self.inside.place.floor) (sym c.in_default.is) ∙ c.self.view_is)

pub returns-in_default-clause-cut : goal.returns-in_default-clause-cut
returns-in_default-clause-cut c =
    ap entries_in c.truncate.ensures
    ∙ ap (λ (region : RegionData). entries_below c.args.to (entries_of region))
    (ap (seen_as c.self.inside.place.home c.self.inside.place.floor) (sym c.in_default.is) ∙ c.self.view_is)

pub invariant_of-self-in-Ok : goal.invariant_of-self-in-Ok
invariant_of-self-in-Ok c = record {
  place = c.in-Ok.ensures.live.place;
  alive = c.in-Ok.ensures.live;
}

pub returns-in-Ok-clause-raised : goal.returns-in-Ok-clause-raised
returns-in-Ok-clause-raised c =
    let home = c.self.inside.place.home in
    let floor = c.self.inside.place.floor in
    ap (λ (place : Place). seen_as place.home place.floor (Some c.cut_floor.new.self)) c.in-Ok.ensures.place
    ∙ (λ i. record { home = home; floor = c.args.to; run = Some (c.in-Ok.ensures.run i) })
    ∙ ap (raised_region c.args.to) (ap (seen_as home floor) (sym c.in-Some.is) ∙ c.self.view_is)

pub returns-in-Ok-clause-cut : goal.returns-in-Ok-clause-cut
returns-in-Ok-clause-cut c =
    c.in-Ok.ensures.cut
    ∙ ap (λ (region : RegionData). entries_below c.args.to (entries_of region))
    (ap (seen_as c.self.inside.place.home c.self.inside.place.floor) (sym c.in-Some.is) ∙ c.self.view_is)

pub invariant_of-self-in-Err : goal.invariant_of-self-in-Err
invariant_of-self-in-Err c =
    subst (λ (place : Place). IsSound place c.let_go.new.live) (sym c.in-Err.ensures.spent)
    (spent_sound c.self.inside.place c.self.inside.live c.let_go.new.live c.self.invariant c.let_go.ensures)

pub returns-in-Err-clause-spent : goal.returns-in-Err-clause-spent
returns-in-Err-clause-spent c =
    ap (λ (place : Place). seen_as place.home place.floor c.let_go.new.live) c.in-Err.ensures.spent
    ∙ ap (seen_as c.self.inside.place.home c.self.inside.place.floor) c.let_go.ensures ∙ ap spent c.self.view_is
