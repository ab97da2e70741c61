use Rattle.real_collisions.proofs.Rounding.{impulses_are_elastic}
use Rattle.real_collisions.proofs.laws.impulses_are_elastic.Goals as goal

pub returns : goal.returns
returns c = impulses_are_elastic
