use Rattle.std.proofs.Common.{Some, sym, subst, ap, ◌∙◌, Option}
use Rattle.event_stamps.specs.Order.{Before, end_stamp}
use Rattle.local_run.specs.Opening.{RegionData}
use Rattle.local_run.specs.Raising.{raised_region, HasNoneWaitingBelow}
use Rattle.region_core.proofs.Kept.{body_is}
use Rattle.region_core.proofs.Shown.{seen_as}
use Rattle.std.specs.Prelude.{IfSome}
use Rattle.region_core.specs.declared.live.Live.{Live}
use Rattle.region_core.specs.Live.{IsLive}
use Rattle.region_parts.specs.declared.place.Place.{Place}
use Rattle.region_parts.specs.Place.{at_floor}
use Rattle.region_core.proofs.region.Region.raise_floor.Goals as goal

pub returns-clause-raised : goal.returns-clause-raised
returns-clause-raised c =
    let home = c.self.inside.place.home in
    let floor = c.self.inside.place.floor in
    ap (λ (place : Place). seen_as place.home place.floor (Some c.raise_floor.new.self)) c.raise_floor.ensures.place
    ∙ (λ i. record { home = home; floor = c.args.to; run = Some (c.raise_floor.ensures.run i) })
    ∙ ap (raised_region c.args.to) (ap (seen_as home floor) (sym c.in-Some.is) ∙ c.self.view_is)

pub invariant_of-self-2 : goal.invariant_of-self-2
invariant_of-self-2 c = record {
  place = c.raise_floor.ensures.live.place;
  alive = c.raise_floor.ensures.live;
}

pub raise_floor-requires-clause-live : goal.raise_floor-requires-clause-live
raise_floor-requires-clause-live c =
    body_is c.self.inside.place c.self.inside.live c.in-Some.live c.self.invariant c.in-Some.is

pub raise_floor-requires-clause-in_time : goal.raise_floor-requires-clause-in_time
raise_floor-requires-clause-in_time c =
    subst (λ (region : RegionData). ¬ Before (end_stamp region.home.rules.end) c.args.to) (sym c.self.view_is)
    c.requires.in_time

pub invariant_of-self : goal.invariant_of-self
invariant_of-self c = record {
  place = record {
    home = c.self.invariant.place.home;
    far = c.self.invariant.place.far;
    floor = subst (λ (region : RegionData). ¬ Before (end_stamp region.home.rules.end) c.args.to) (sym c.self.view_is)
        c.requires.in_time;
  };
  alive = subst (λ (o : Option Live). IfSome o (IsLive (at_floor c.args.to c.self.inside.place))) (sym c.in_default.is) tt;
}

pub returns-in_default-clause-raised : goal.returns-in_default-clause-raised
returns-in_default-clause-raised c =
    let home = c.self.inside.place.home in
    ap (seen_as home c.args.to) c.in_default.is
    ∙ ap (raised_region c.args.to) (ap (seen_as home c.self.inside.place.floor) (sym c.in_default.is) ∙ c.self.view_is)

pub raise_floor-requires-clause-none_waiting : goal.raise_floor-requires-clause-none_waiting
raise_floor-requires-clause-none_waiting c =
    subst (λ (region : RegionData). IfSome region.run (HasNoneWaitingBelow c.args.to))
    (sym (ap (seen_as c.self.inside.place.home c.self.inside.place.floor) (sym c.in-Some.is) ∙ c.self.view_is))
    c.requires.none_waiting
