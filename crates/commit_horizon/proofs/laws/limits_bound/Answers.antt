use Rattle.commit_horizon.proofs.Limits.{limits_bound}
use Rattle.commit_horizon.proofs.laws.limits_bound.Goals as goal

pub returns : goal.returns
returns c = limits_bound
