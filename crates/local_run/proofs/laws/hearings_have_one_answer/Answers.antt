use Rattle.local_run.proofs.Determined.{one_hearing}
use Rattle.local_run.proofs.laws.hearings_have_one_answer.Goals as goal

pub returns : goal.returns
returns c = one_hearing
