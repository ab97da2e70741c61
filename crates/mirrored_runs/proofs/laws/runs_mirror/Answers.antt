use Rattle.mirrored_runs.proofs.MirroredRuns.{runs_mirror}
use Rattle.mirrored_runs.proofs.laws.runs_mirror.Goals as goal

pub returns : goal.returns
returns c = runs_mirror
