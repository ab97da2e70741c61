-- The stamps of a run rise.
use Rattle.event_rules.proofs.Rise.{stamps_rise}
use Rattle.sampled_laws.proofs.OfTicks.{samples_are_of_ticks_by}
use Rattle.sampled_laws.proofs.laws.samples_are_of_ticks.Goals as goal

pub returns : goal.returns
returns c = samples_are_of_ticks_by stamps_rise
