-- The rest of a run has the run's events, later.
use Rattle.event_rules.proofs.Levels.{few_events_of_a_scene}
use Rattle.resume.proofs.InParts.{parts_make_runs}
use Rattle.sampled_laws.proofs.AddedUp.{sums_of_parts_add_up_by}
use Rattle.sampled_laws.proofs.laws.sums_of_parts_add_up.Goals as goal

pub returns : goal.returns
returns c = sums_of_parts_add_up_by few_events_of_a_scene parts_make_runs
