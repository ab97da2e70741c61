use Rattle.program_modes.proofs.Accepted.{audits_keep_refusals}
use Rattle.program_modes.proofs.laws.audits_keep_refusals.Goals as goal

pub returns : goal.returns
returns c = audits_keep_refusals
