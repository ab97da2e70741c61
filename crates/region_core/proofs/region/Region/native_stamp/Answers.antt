use Rattle.std.proofs.Common.{sym, subst, Option}
use Rattle.std.specs.Prelude.{IfSome}
use Rattle.event_stamps.specs.declared.Stamp.{Stamp}
use Rattle.event_stamps.specs.Order.{IsInRange}
use Rattle.region_core.specs.declared.live.Live.{Live}
use Rattle.region_core.specs.Live.{run_in, IsLive}
use Rattle.region_core.proofs.Ranges.{told_in_range}
use Rattle.region_core.proofs.Kept.{kept_is}
use Rattle.region_core.proofs.region.Region.native_stamp.Goals as goal

pub returns-in-Some-clause-range : goal.returns-in-Some-clause-range
returns-in-Some-clause-range c =
    let home = c.self.inside.place.home in
    let floor = c.self.inside.place.floor in
    let live = c.in-Some.live in
    let alive = subst (λ (o : Option Live). IfSome o (IsLive c.self.inside.place)) c.in-Some.is c.self.invariant.alive in
    subst (λ (o : Option Stamp). IfSome o IsInRange) (sym c.native_stamp.ensures)
    (told_in_range home (run_in floor live) c.args.i c.self.invariant.place.home alive.body.right)

pub returns-in-Some-clause-kept : goal.returns-in-Some-clause-kept
returns-in-Some-clause-kept c = kept_is _ _ _ c.self.view_is c.self.invariant

pub returns-in-None-clause-kept : goal.returns-in-None-clause-kept
returns-in-None-clause-kept c = kept_is _ _ _ c.self.view_is c.self.invariant
