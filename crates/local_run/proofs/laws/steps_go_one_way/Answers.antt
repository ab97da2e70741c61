use Rattle.local_run.proofs.OneStep.{one_step}
use Rattle.local_run.proofs.laws.steps_go_one_way.Goals as goal

pub returns : goal.returns
returns c = one_step
