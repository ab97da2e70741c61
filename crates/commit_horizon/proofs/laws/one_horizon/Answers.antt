use Rattle.commit_horizon.proofs.Unique.{one_horizon}
use Rattle.commit_horizon.proofs.laws.one_horizon.Goals as goal

pub returns : goal.returns
returns c = one_horizon
