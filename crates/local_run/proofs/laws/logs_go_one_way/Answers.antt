use Rattle.local_run.proofs.Determined.{logs_go_one_way}
use Rattle.local_run.proofs.laws.logs_go_one_way.Goals as goal

pub returns : goal.returns
returns c = logs_go_one_way
