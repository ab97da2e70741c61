use Rattle.run_core.proofs.Pass.{passes_end}
use Rattle.run_core.proofs.laws.passes_end.Goals as goal

pub returns : goal.returns
returns c = passes_end
