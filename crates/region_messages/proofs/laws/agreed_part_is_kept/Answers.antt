use Rattle.region_messages.proofs.Parts.{agreed_part}
use Rattle.region_messages.proofs.laws.agreed_part_is_kept.Goals as goal

pub returns : goal.returns
returns c = agreed_part
