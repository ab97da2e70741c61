use Rattle.region_messages.proofs.Parts.{split}
use Rattle.region_messages.proofs.laws.parts_make_the_whole.Goals as goal

pub returns : goal.returns
returns c = split
