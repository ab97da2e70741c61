use Rattle.real_collisions.proofs.AtTheTouch.{near_until}
use Rattle.real_collisions.proofs.laws.impulses_are_near_until_the_touch.Goals as goal

pub returns : goal.returns
returns c = near_until
