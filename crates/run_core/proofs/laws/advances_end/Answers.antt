use Rattle.run_core.proofs.Left.{advances_end}
use Rattle.run_core.proofs.laws.advances_end.Goals as goal

pub returns : goal.returns
returns c = advances_end
