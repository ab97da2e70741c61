use Rattle.event_rules.proofs.Ran.{states_stay_valid}
use Rattle.event_rules.proofs.laws.states_stay_valid.Goals as goal

pub returns : goal.returns
returns c = states_stay_valid
