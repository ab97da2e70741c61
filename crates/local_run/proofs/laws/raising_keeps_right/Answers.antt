use Rattle.local_run.proofs.Raised.{raising_keeps_right}
use Rattle.local_run.proofs.laws.raising_keeps_right.Goals as goal

pub returns : goal.returns
returns c = raising_keeps_right
