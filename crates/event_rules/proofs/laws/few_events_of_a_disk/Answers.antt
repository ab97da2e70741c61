use Rattle.event_rules.proofs.Levels.{few_events_of_a_disk}
use Rattle.event_rules.proofs.laws.few_events_of_a_disk.Goals as goal

pub returns : goal.returns
returns c = few_events_of_a_disk
