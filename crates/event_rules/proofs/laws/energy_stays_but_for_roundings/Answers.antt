use Rattle.event_rules.proofs.Conserved.{energy_stays_but_for_roundings}
use Rattle.event_rules.proofs.laws.energy_stays_but_for_roundings.Goals as goal

pub returns : goal.returns
returns c = energy_stays_but_for_roundings
