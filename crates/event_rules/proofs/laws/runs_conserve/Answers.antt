use Rattle.event_rules.proofs.Conserved.{runs_conserve}
use Rattle.event_rules.proofs.laws.runs_conserve.Goals as goal

pub returns : goal.returns
returns c = runs_conserve
