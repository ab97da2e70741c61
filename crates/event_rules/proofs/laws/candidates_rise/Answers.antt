use Rattle.event_rules.proofs.Rise.{candidate_rises}
use Rattle.event_rules.proofs.laws.candidates_rise.Goals as goal

pub returns : goal.returns
returns c = candidate_rises
