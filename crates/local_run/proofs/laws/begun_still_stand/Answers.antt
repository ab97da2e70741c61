use Rattle.local_run.proofs.Stands.{begun_still_stand}
use Rattle.local_run.proofs.laws.begun_still_stand.Goals as goal

pub returns : goal.returns
returns c = begun_still_stand
