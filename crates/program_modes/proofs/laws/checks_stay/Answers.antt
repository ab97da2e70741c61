use Rattle.program_modes.proofs.Reread.{checks_stay}
use Rattle.program_modes.proofs.laws.checks_stay.Goals as goal

pub returns : goal.returns
returns c = checks_stay
