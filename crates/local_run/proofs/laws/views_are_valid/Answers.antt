use Rattle.local_run.proofs.Valid.{valid_at}
use Rattle.local_run.proofs.laws.views_are_valid.Goals as goal

pub returns : goal.returns
returns c = valid_at
