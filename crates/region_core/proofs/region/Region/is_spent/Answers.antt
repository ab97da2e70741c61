use Rattle.region_core.proofs.Kept.{kept_is}
use Rattle.region_core.proofs.Shown.{spent_shown}
use Rattle.region_core.proofs.region.Region.is_spent.Goals as goal

pub returns-clause-kept : goal.returns-clause-kept
returns-clause-kept c = kept_is _ _ _ c.self.view_is c.self.invariant

pub returns-clause-value : goal.returns-clause-value
returns-clause-value c =
    spent_shown c.is_none.result c.self.inside.place.home c.self.inside.place.floor c.self.inside.live c.args.self.now
    c.self.view_is c.is_none.ensures
