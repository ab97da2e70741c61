use Rattle.std.proofs.Common.{drop}
use Rattle.event_log.specs.Logged.{entries_in}
use Rattle.commit_horizon.specs.Untold.{actions_in, PassesCrossings}
use Rattle.commit_horizon.proofs.untold.hit_from.Given as goal

abbrev pub invariant-loop-place : goal.invariant-loop-place
invariant-loop-place l =
    PassesCrossings (actions_in (drop l.done (entries_in l.log))) (actions_in (drop l.place (entries_in l.log)))
