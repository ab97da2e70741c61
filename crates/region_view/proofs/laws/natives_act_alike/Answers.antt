use Rattle.region_view.proofs.Homes.{natives_act_alike}
use Rattle.region_view.proofs.laws.natives_act_alike.Goals as goal

pub returns : goal.returns
returns c = natives_act_alike
