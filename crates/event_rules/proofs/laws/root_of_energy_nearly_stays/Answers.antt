use Rattle.event_rules.proofs.Speeds.{root_of_energy_nearly_stays}
use Rattle.event_rules.proofs.laws.root_of_energy_nearly_stays.Goals as goal

pub returns : goal.returns
returns c = root_of_energy_nearly_stays
