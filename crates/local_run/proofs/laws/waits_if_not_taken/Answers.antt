use Rattle.local_run.proofs.Waiting.{waits_if_not_taken}
use Rattle.local_run.proofs.laws.waits_if_not_taken.Goals as goal

pub returns : goal.returns
returns c = waits_if_not_taken
