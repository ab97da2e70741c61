-- Disks fly straight, and events move none.
use Rattle.event_rules.proofs.Levels.{few_events_of_a_scene}
use Rattle.sampled_laws.proofs.Virials.{virial_theorem_by, virial_theorem_at_end_by}
use Rattle.sampled_laws.proofs.laws.virial_theorem.Goals as goal

pub returns-clause-ticks : goal.returns-clause-ticks
returns-clause-ticks c = virial_theorem_by few_events_of_a_scene

pub returns-clause-end : goal.returns-clause-end
returns-clause-end c = virial_theorem_at_end_by few_events_of_a_scene
