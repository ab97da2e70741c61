-- The energy at both ticks is 4.
use Rattle.std.proofs.Common.{arith}
use Rattle.event_rules.specs.declared.outcome.Outcome.TheVariants.{Done}
use Rattle.worked_laws.specs.Glance.{glance_scene, glance_changes, glance_end}
use Rattle.worked_laws.proofs.GlanceRun.{glance_run}
use Rattle.worked_laws.proofs.ValidRows.{glance_valid}
use Rattle.worked_laws.proofs.sums.the_squares_of_the_glance.Goals as goal

pub returns-clause-tick : goal.returns-clause-tick
returns-clause-tick c = c.squares_are_energy.ensures.ticks glance_scene glance_changes (Done glance_end) 3 glance_valid glance_run (omega arith)

pub returns-clause-end : goal.returns-clause-end
returns-clause-end c = c.squares_are_energy.ensures.end glance_scene glance_changes glance_end glance_valid glance_run
