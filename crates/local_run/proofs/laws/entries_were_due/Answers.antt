use Rattle.local_run.proofs.Determined.{entries_were_due}
use Rattle.local_run.proofs.laws.entries_were_due.Goals as goal

pub returns : goal.returns
returns c = entries_were_due
