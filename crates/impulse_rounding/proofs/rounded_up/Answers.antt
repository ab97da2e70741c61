-- The two sizes are those that were rounded up. That is said here, so that a wrong one is refused as soon as this fails.
use Rattle.std.proofs.Common.{rules}
use Rattle.impulse_rounding.proofs.rounded_up.Goals as goal

pub returns-clause-value : goal.returns-clause-value
returns-clause-value c = search rules
