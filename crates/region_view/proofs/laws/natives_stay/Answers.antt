use Rattle.region_view.proofs.Naming.{natives_stay}
use Rattle.region_view.proofs.laws.natives_stay.Goals as goal

pub returns : goal.returns
returns c = natives_stay
