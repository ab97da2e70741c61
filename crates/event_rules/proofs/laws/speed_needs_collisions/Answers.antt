use Rattle.event_rules.proofs.Speeds.{speed_needs_collisions}
use Rattle.event_rules.proofs.laws.speed_needs_collisions.Goals as goal

pub returns : goal.returns
returns c = speed_needs_collisions
