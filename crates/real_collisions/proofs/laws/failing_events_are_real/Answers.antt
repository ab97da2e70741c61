use Rattle.real_collisions.proofs.Events.{failing_events_are_real}
use Rattle.real_collisions.proofs.laws.failing_events_are_real.Goals as goal

pub returns : goal.returns
returns c = failing_events_are_real
