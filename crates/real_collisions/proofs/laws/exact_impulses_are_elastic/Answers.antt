use Rattle.real_collisions.proofs.Elastic.{exact_impulses_are_elastic}
use Rattle.real_collisions.proofs.laws.exact_impulses_are_elastic.Goals as goal

pub returns : goal.returns
returns c = exact_impulses_are_elastic
