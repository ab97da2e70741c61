use Rattle.std.proofs.Common.{◌∙◌, sym, ap}
use Rattle.local_run.specs.Entries.{last_entry_stamp}
use Rattle.local_run.specs.Keeping.{entries_of}
use Rattle.local_run.specs.Opening.{RegionData}
use Rattle.region_core.proofs.Traced.{last_stamp_is}
use Rattle.region_core.proofs.Shown.{seen_as}
use Rattle.region_core.proofs.Kept.{kept_is}
use Rattle.region_core.proofs.region.Region.clock.Goals as goal

pub returns-in-Some-clause-value : goal.returns-in-Some-clause-value
returns-in-Some-clause-value c =
    c.last_stamp.ensures ∙ last_stamp_is c.in-Some.live.log
    ∙ ap (λ (region : RegionData). last_entry_stamp (entries_of region))
    (ap (seen_as c.self.inside.place.home c.self.inside.place.floor) (sym c.in-Some.is) ∙ c.self.view_is)

pub returns-in-Some-clause-kept : goal.returns-in-Some-clause-kept
returns-in-Some-clause-kept c = kept_is _ _ _ c.self.view_is c.self.invariant

pub returns-in-None-clause-kept : goal.returns-in-None-clause-kept
returns-in-None-clause-kept c = kept_is _ _ _ c.self.view_is c.self.invariant
