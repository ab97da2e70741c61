use Rattle.program_modes.proofs.OneOutput.{depends_on_alone}
use Rattle.program_modes.proofs.laws.output_depends_on_alone.Goals as goal

pub returns : goal.returns
returns c = depends_on_alone
