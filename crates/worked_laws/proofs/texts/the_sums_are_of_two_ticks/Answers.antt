-- The ticks, and what the sums are then.
use Rattle.std.proofs.Common.{[], ◌∷◌}
use Rattle.std.specs.Fmt.{digits}
use Rattle.event_rules.specs.declared.outcome.Outcome.TheVariants.{Done}
use Rattle.run_samples.specs.declared.sample.Sample.TheVariants.{Sums}
use Rattle.worked_laws.specs.Pair.{the_hit, pair_end}
use Rattle.worked_laws.specs.Texts.{states_scene}
use Rattle.worked_laws.proofs.PairRun.{pair_run}
use Rattle.worked_laws.proofs.ValidRows.{states_valid}
use Rattle.worked_laws.proofs.texts.the_sums_are_of_two_ticks.Goals as goal

pub returns : goal.returns
unfolding digits
returns c = c.samples_are_of_ticks.ensures (Sums 0) states_scene (the_hit ∷ []) (Done pair_end) states_valid pair_run
