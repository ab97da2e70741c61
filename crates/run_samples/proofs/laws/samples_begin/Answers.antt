-- Each change of a run takes part.
use Rattle.event_rules.proofs.Fits.{changes_fit}
use Rattle.run_samples.proofs.Joined.{samples_begin_by}
use Rattle.run_samples.proofs.laws.samples_begin.Goals as goal

pub returns : goal.returns
returns c = samples_begin_by changes_fit
