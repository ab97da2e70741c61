use Rattle.std.proofs.Common.{arith}
use Rattle.run_core.proofs.one_state.Standing.adopting.Goals as goal

pub on-requires-clause-stand : goal.on-requires-clause-stand
on-requires-clause-stand c = grind arith
