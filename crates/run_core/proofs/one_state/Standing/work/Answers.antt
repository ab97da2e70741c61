use Rattle.std.proofs.Common.{rules}
use Rattle.run_core.proofs.one_state.Standing.work.Goals as goal

pub work_keeping-requires-clause-keeping : goal.work_keeping-requires-clause-keeping
work_keeping-requires-clause-keeping g c κs within = c.keeps.ensures (search rules)
