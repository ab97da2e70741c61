use Rattle.local_run.proofs.Woven.{weaving_keeps_right}
use Rattle.local_run.proofs.laws.weaving_keeps_right.Goals as goal

pub returns : goal.returns
returns c = weaving_keeps_right
