use Rattle.event_rules.proofs.Fits.{changes_fit}
use Rattle.event_rules.proofs.laws.changes_fit.Goals as goal

pub returns : goal.returns
returns c = changes_fit
