use Rattle.region_core.proofs.Kept.{kept_is}
use Rattle.region_core.proofs.region.Region.grid.Goals as goal

pub returns-clause-kept : goal.returns-clause-kept
returns-clause-kept c = kept_is _ _ _ c.self.view_is c.self.invariant
