use Rattle.local_run.proofs.Keeps.{hearing_keeps_right}
use Rattle.local_run.proofs.laws.hearings_keep_right.Goals as goal

pub returns : goal.returns
returns c = hearing_keeps_right
