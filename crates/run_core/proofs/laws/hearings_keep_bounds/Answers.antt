use Rattle.run_core.proofs.Pass.{hearings_keep_bounds}
use Rattle.run_core.proofs.laws.hearings_keep_bounds.Goals as goal

pub returns : goal.returns
returns c = hearings_keep_bounds
