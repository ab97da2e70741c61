use Rattle.real_collisions.proofs.AtTheTouch.{events_are_elastic_at_the_touch}
use Rattle.real_collisions.proofs.laws.events_are_elastic_at_the_touch.Goals as goal

pub returns : goal.returns
returns c = events_are_elastic_at_the_touch
