use Rattle.std.proofs.Common.{Option, sym, subst}
use Rattle.std.specs.Prelude.{option_map, IfSome}
use Rattle.region_core.specs.declared.live.Live.{Live}
use Rattle.local_run.specs.Opening.{RegionData}
use Rattle.region_core.specs.Live.{run_in, IsLive}
use Rattle.local_run.specs.Keeping.{IsDueIn, IsDueAt}
use Rattle.region_core.proofs.Kept.{kept_is}
use Rattle.region_core.proofs.region.Region.due.Goals as goal

pub returns-in-Some-clause-kept : goal.returns-in-Some-clause-kept
returns-in-Some-clause-kept c = kept_is _ _ _ c.self.view_is c.self.invariant

pub returns-in-None-clause-kept : goal.returns-in-None-clause-kept
returns-in-None-clause-kept c = kept_is _ _ _ c.self.view_is c.self.invariant

pub due_or_end-requires : goal.due_or_end-requires
due_or_end-requires c =
    subst (λ (o : Option Live). IfSome o (IsLive c.self.inside.place)) c.in-Some.is c.self.invariant.alive

pub returns-in-Some-clause-value : goal.returns-in-Some-clause-value
returns-in-Some-clause-value c =
    subst (λ (region : RegionData). IsDueIn region c.due_or_end.result) c.self.view_is
    (subst (λ (o : Option Live). IsDueAt c.self.inside.place.home c.self.inside.place.floor
    (option_map (run_in c.self.inside.place.floor) o) c.due_or_end.result)
    (sym c.in-Some.is) c.due_or_end.ensures)
