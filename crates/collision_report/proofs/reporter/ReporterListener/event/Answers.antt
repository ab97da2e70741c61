-- A change that was counted was not refused, and is told. That is said here, so that a wrong count is refused as soon as this fails.
use Rattle.std.proofs.Common.{rules}
use Rattle.collision_report.proofs.reporter.ReporterListener.event.Goals as goal

pub returns-then-is_some-clause-torn : goal.returns-then-is_some-clause-torn
returns-then-is_some-clause-torn g c = tt

pub returns-else-is_some-clause-torn : goal.returns-else-is_some-clause-torn
returns-else-is_some-clause-torn g c = tt

pub returns-then-is_some-clause-told : goal.returns-then-is_some-clause-told
returns-then-is_some-clause-told g c = search rules

pub returns-else-is_some-clause-told : goal.returns-else-is_some-clause-told
returns-else-is_some-clause-told g c = search rules
