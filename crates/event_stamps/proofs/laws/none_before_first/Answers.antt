use Rattle.event_stamps.proofs.StampOrder as order
use Rattle.event_stamps.proofs.laws.none_before_first.Goals as goal

pub returns : goal.returns
returns c = order.none_before_first
