use Rattle.commit_horizon.proofs.Merged.{merged_is_next}
use Rattle.commit_horizon.proofs.laws.merged_is_next.Goals as goal

pub returns : goal.returns
returns c = merged_is_next
