use Rattle.region_table.proofs.Standing.{taken_still_stand}
use Rattle.region_table.proofs.laws.taken_still_stand.Goals as goal

pub returns : goal.returns
returns c = taken_still_stand
