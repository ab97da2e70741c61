use Rattle.event_rules.proofs.Fits.{outcomes_fit}
use Rattle.event_rules.proofs.laws.outcomes_fit.Goals as goal

pub returns : goal.returns
returns c = outcomes_fit
