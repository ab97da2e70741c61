use Rattle.resume.proofs.Composed.{cuts_compose}
use Rattle.resume.proofs.laws.cuts_compose.Goals as goal

pub returns : goal.returns
returns c = cuts_compose
