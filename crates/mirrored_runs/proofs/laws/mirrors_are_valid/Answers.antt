use Rattle.mirrored_runs.proofs.MirroredRuns.{mirrors_are_valid}
use Rattle.mirrored_runs.proofs.laws.mirrors_are_valid.Goals as goal

pub returns : goal.returns
returns c = mirrors_are_valid
