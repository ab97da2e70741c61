use Rattle.program_modes.proofs.OneOutput.{one_output}
use Rattle.program_modes.proofs.laws.one_output.Goals as goal

pub returns : goal.returns
returns c = one_output
