use Rattle.run_core.proofs.Pass.{passes_end_in_agreement}
use Rattle.run_core.proofs.laws.passes_end_in_agreement.Goals as goal

pub returns : goal.returns
returns c = passes_end_in_agreement
