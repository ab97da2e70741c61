use Rattle.program_modes.proofs.Answered.{prefixes_may}
use Rattle.program_modes.proofs.laws.prefixes_may_be_asked.Goals as goal

pub returns : goal.returns
returns c = prefixes_may
