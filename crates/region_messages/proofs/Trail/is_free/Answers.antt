use Rattle.region_messages.proofs.Inserted.{free_where_nothing}
use Rattle.region_messages.proofs.Trail.is_free.Goals as goal

pub returns : goal.returns
returns c = free_where_nothing c.args.stamp c.args.self.now c.at.result c.is_none.result c.at.ensures c.is_none.ensures
