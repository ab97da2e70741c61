use Rattle.commit_horizon.proofs.Unique.{one_merged}
use Rattle.commit_horizon.proofs.laws.one_merged.Goals as goal

pub returns : goal.returns
returns c = one_merged
