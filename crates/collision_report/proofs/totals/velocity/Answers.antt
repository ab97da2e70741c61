-- The components are those of the spot. That is said here, so that a wrong one is refused as soon as this fails.
use Rattle.std.proofs.Common.{rules}
use Rattle.collision_report.proofs.totals.velocity.Goals as goal

pub returns : goal.returns
returns c = search rules
