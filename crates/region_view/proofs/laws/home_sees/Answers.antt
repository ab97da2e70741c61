use Rattle.region_view.proofs.After.{home_sees}
use Rattle.region_view.proofs.laws.home_sees.Goals as goal

pub returns : goal.returns
returns c = home_sees
