use Rattle.local_run.proofs.Keeps.{step_keeps_right}
use Rattle.local_run.proofs.laws.steps_keep_right.Goals as goal

pub returns : goal.returns
returns c = step_keeps_right
