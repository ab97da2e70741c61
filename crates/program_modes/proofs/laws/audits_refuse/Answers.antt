use Rattle.program_modes.proofs.Accepted.{audits_refuse}
use Rattle.program_modes.proofs.laws.audits_refuse.Goals as goal

pub returns : goal.returns
returns c = audits_refuse
