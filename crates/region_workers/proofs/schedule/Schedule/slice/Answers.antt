-- A slice has a step. That is said here, so that one without is refused as soon as this fails.
use Rattle.std.proofs.Common.{arith}
use Rattle.region_workers.proofs.schedule.Schedule.slice.Goals as goal

pub returns : goal.returns
returns c = omega arith
