use Rattle.resume.proofs.Composed.{earlier_is_done}
use Rattle.resume.proofs.laws.earlier_is_done.Goals as goal

pub returns : goal.returns
returns c = earlier_is_done
