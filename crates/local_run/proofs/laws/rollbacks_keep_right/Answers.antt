use Rattle.local_run.proofs.Keeps.{rollback_keeps_right}
use Rattle.local_run.proofs.laws.rollbacks_keep_right.Goals as goal

pub returns : goal.returns
returns c = rollback_keeps_right
