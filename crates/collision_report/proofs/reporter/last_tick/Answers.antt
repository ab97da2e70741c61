-- The tick is that of the outcome. That is said here, so that a wrong one is refused as soon as this fails.
use Rattle.std.proofs.Common.{rules}
use Rattle.collision_report.proofs.reporter.last_tick.Goals as goal

pub returns-in-Limit-Rounds : goal.returns-in-Limit-Rounds
returns-in-Limit-Rounds c = search rules

pub returns-in-Limit-Speed : goal.returns-in-Limit-Speed
returns-in-Limit-Speed c = search rules
