use Rattle.region_core.specs.Live.{now_in}
use Rattle.region_core.proofs.live.Live.due_or_end.Goals as goal

pub returns : goal.returns
returns c = c.or_end.ensures (now_in c.args.self.now) (c.due.ensures c.args.place.now c.requires)
