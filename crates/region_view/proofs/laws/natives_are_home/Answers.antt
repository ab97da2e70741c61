use Rattle.region_view.proofs.Homes.{natives_are_home}
use Rattle.region_view.proofs.laws.natives_are_home.Goals as goal

pub returns : goal.returns
returns c = natives_are_home
