-- A run has few events.
use Rattle.event_rules.proofs.Levels.{few_events_of_a_scene}
use Rattle.sampled_laws.proofs.Small.{sums_never_stop_by}
use Rattle.sampled_laws.proofs.laws.sums_never_stop.Goals as goal

pub returns : goal.returns
returns c = sums_never_stop_by few_events_of_a_scene
