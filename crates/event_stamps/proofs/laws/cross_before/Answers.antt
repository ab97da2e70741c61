use Rattle.event_stamps.proofs.StampOrder as order
use Rattle.event_stamps.proofs.laws.cross_before.Goals as goal

pub returns : goal.returns
returns c = order.cross_before
