use Rattle.event_stamps.proofs.Ranks as ranks
use Rattle.event_stamps.proofs.laws.ranks_agree.Goals as goal

pub returns : goal.returns
returns c = ranks.ranks_agree
