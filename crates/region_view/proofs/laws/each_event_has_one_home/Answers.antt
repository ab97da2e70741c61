use Rattle.region_view.proofs.Homes.{each_event_has_one_home}
use Rattle.region_view.proofs.laws.each_event_has_one_home.Goals as goal

pub returns : goal.returns
returns c = each_event_has_one_home
