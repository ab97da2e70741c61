-- Each change of a run takes part, and there are few.
use Rattle.event_rules.proofs.Fits.{changes_fit}
use Rattle.event_rules.proofs.Ranges.{few_events}
use Rattle.run_samples.proofs.Joined.{samples_join_by}
use Rattle.run_samples.proofs.laws.samples_join.Goals as goal

pub returns : goal.returns
returns c = samples_join_by changes_fit few_events
