use Rattle.program_modes.proofs.Accepted.{audits_accept}
use Rattle.program_modes.proofs.laws.audits_accept.Goals as goal

pub returns : goal.returns
returns c = audits_accept
