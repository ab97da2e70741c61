use Rattle.event_stamps.proofs.StampOrder.{stamps_total}
use Rattle.event_stamps.proofs.laws.order_is_total.Goals as goal

pub returns : goal.returns
returns c = stamps_total
