use Rattle.program_modes.proofs.Recut.{cuts_add_up}
use Rattle.program_modes.proofs.laws.cuts_add_up.Goals as goal

pub returns : goal.returns
returns c = cuts_add_up
