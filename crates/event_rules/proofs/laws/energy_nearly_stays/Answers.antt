use Rattle.event_rules.proofs.Conserved.{energy_nearly_stays}
use Rattle.event_rules.proofs.laws.energy_nearly_stays.Goals as goal

pub returns : goal.returns
returns c = energy_nearly_stays
