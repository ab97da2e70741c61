use Rattle.real_collisions.proofs.AtTheTouch.{flight_keeps_turning}
use Rattle.real_collisions.proofs.laws.flight_keeps_turning.Goals as goal

pub returns : goal.returns
returns c = flight_keeps_turning
