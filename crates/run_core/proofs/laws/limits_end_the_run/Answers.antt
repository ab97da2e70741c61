use Rattle.run_core.proofs.Simulating.{limits_end_the_run}
use Rattle.run_core.proofs.laws.limits_end_the_run.Goals as goal

pub returns : goal.returns
returns c = limits_end_the_run
