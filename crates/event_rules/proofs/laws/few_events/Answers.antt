use Rattle.event_rules.proofs.Ranges.{few_events}
use Rattle.event_rules.proofs.laws.few_events.Goals as goal

pub returns : goal.returns
returns c = few_events
