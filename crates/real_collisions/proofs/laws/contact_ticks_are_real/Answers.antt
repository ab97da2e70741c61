use Rattle.real_collisions.proofs.Touch.{contact_ticks_are_real}
use Rattle.real_collisions.proofs.laws.contact_ticks_are_real.Goals as goal

pub returns : goal.returns
returns c = contact_ticks_are_real
