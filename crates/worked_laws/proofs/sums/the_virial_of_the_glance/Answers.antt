-- The run is known, and so are the four parts.
use Rattle.std.proofs.Common.{ap, ◌∙◌}
use Rattle.event_rules.specs.declared.outcome.Outcome.TheVariants.{Done}
use Rattle.sampled_laws.specs.Virial.{outward}
use Rattle.worked_laws.specs.Glance.{glance_scene, glance_changes, glance_end}
use Rattle.worked_laws.proofs.GlanceRun.{glance_run, only_spots}
use Rattle.worked_laws.proofs.ValidRows.{glance_valid}
use Rattle.worked_laws.proofs.sums.the_virial_of_the_glance.Goals as goal

pub returns-clause-tick : goal.returns-clause-tick
returns-clause-tick c = c.virial_theorem.ensures.ticks glance_scene glance_changes (Done glance_end) 3 glance_valid glance_run

pub returns-clause-end : goal.returns-clause-end
returns-clause-end c changes spots run =
    ap outward (only_spots changes spots run) ∙ c.virial_theorem.ensures.end glance_scene glance_changes glance_end glance_valid glance_run
