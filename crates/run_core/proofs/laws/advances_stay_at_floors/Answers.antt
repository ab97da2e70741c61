use Rattle.run_core.proofs.Floors.{advances_stay_at_floors}
use Rattle.run_core.proofs.laws.advances_stay_at_floors.Goals as goal

pub returns : goal.returns
returns c = advances_stay_at_floors
