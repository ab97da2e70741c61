use Rattle.region_messages.proofs.Disagreement.{ends_there}
use Rattle.region_messages.proofs.laws.agree_until_first.Goals as goal

pub returns : goal.returns
returns c = ends_there
