use Rattle.real_collisions.proofs.Events.{events_are_real}
use Rattle.real_collisions.proofs.laws.events_are_real.Goals as goal

pub returns : goal.returns
returns c = events_are_real
