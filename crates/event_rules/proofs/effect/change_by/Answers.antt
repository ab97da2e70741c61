-- The event is that of the disks that there are.
use Rattle.std.proofs.Common.{refl}
use Rattle.event_rules.proofs.effect.change_by.Goals as goal

pub bounce-requires-clause-event : goal.bounce-requires-clause-event
bounce-requires-clause-event c = rw c.in-None.is at c.requires.event

pub collide-requires-clause-event : goal.collide-requires-clause-event
collide-requires-clause-event c = rw c.in-Some.is at c.requires.event

pub collide-requires-clause-second : goal.collide-requires-clause-second
collide-requires-clause-second c = let second = rw c.in-Some.is at c.requires.second in second _ refl
