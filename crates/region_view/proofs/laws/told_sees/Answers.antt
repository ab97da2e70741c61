use Rattle.region_view.proofs.After.{told_sees}
use Rattle.region_view.proofs.laws.told_sees.Goals as goal

pub returns : goal.returns
returns c = told_sees
