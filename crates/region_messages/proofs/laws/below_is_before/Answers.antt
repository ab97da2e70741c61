use Rattle.region_messages.proofs.Parts.{members_below}
use Rattle.region_messages.proofs.laws.below_is_before.Goals as goal

pub returns : goal.returns
returns c = members_below
