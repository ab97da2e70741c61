-- Each change of a run takes part, and there are few.
use Rattle.event_rules.proofs.Fits.{changes_fit}
use Rattle.event_rules.proofs.Ranges.{few_events}
use Rattle.run_samples.proofs.Joined.{samples_break_off_by}
use Rattle.run_samples.proofs.laws.samples_break_off.Goals as goal

pub returns : goal.returns
returns c = samples_break_off_by changes_fit few_events
