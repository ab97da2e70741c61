use Rattle.std.proofs.Common.{sym, subst}
use Rattle.local_run.specs.LocalRun.{IsHearable}
use Rattle.local_run.specs.Opening.{RegionData}
use Rattle.region_core.proofs.region.Region.catch_up_posted.Goals as goal

pub catch_up-requires-clause-hearable : goal.catch_up-requires-clause-hearable
catch_up-requires-clause-hearable c =
    subst (λ (region : RegionData). IsHearable region.home region.floor c.args.from c.args.posted.now)
    (sym c.self.view_is) c.requires
