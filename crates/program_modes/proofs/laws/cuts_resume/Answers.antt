use Rattle.program_modes.proofs.Reread.{cuts_resume}
use Rattle.program_modes.proofs.laws.cuts_resume.Goals as goal

pub returns : goal.returns
returns c = cuts_resume
