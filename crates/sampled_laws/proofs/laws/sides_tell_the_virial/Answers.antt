-- Each side turns a disk at its place, or a little before.
use Rattle.event_rules.proofs.Levels.{few_events_of_a_scene}
use Rattle.sampled_laws.proofs.AtPlaces.{sides_turn_at_their_places_by, sides_tell_the_virial_by}
use Rattle.sampled_laws.proofs.laws.sides_tell_the_virial.Goals as goal

pub returns-clause-turned : goal.returns-clause-turned
returns-clause-turned c = sides_turn_at_their_places_by few_events_of_a_scene

pub returns-clause-told : goal.returns-clause-told
returns-clause-told c = sides_tell_the_virial_by few_events_of_a_scene
