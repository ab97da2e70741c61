-- The quotient is that of the definition. That is said here, so that a wrong one is refused as soon as this fails.
use Rattle.std.proofs.Common.{rules}
use Rattle.impulse_rounding.proofs.divide_wide_to_nearest.Goals as goal

pub returns : goal.returns
returns c = search rules
