use Rattle.region_core.proofs.Kept.{kept_is}
use Rattle.region_core.proofs.region.Region.native.Goals as goal

pub returns-in-Some-clause-kept : goal.returns-in-Some-clause-kept
returns-in-Some-clause-kept c = kept_is _ _ _ c.self.view_is c.self.invariant

pub returns-in-None-clause-kept : goal.returns-in-None-clause-kept
returns-in-None-clause-kept c = kept_is _ _ _ c.self.view_is c.self.invariant
