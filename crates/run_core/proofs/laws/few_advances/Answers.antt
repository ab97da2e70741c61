use Rattle.run_core.proofs.Few.{few_advances}
use Rattle.run_core.proofs.laws.few_advances.Goals as goal

pub returns : goal.returns
returns c = few_advances
