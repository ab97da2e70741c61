use Rattle.region_table.proofs.Standing.{homes_still_stand}
use Rattle.region_table.proofs.laws.homes_still_stand.Goals as goal

pub returns : goal.returns
returns c = homes_still_stand
