use Rattle.std.proofs.Common.{◌-◌, ◌+◌, ◌*◌}
use Rattle.region_workers.proofs.workers.+Workers-around+fn-Workers-around-join_mut+arg3.Given as goal

abbrev pub decreases-Workers::around : goal.decreases-Workers::around
decreases-Workers::around g l = 2 * (64 - l.worker) + 1

abbrev pub decreases-join_mut+arg3 : goal.decreases-join_mut+arg3
decreases-join_mut+arg3 g l = 2 * (64 - l.worker)
