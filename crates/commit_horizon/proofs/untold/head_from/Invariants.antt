use Rattle.std.proofs.Common.{◌≡◌, drop}
use Rattle.event_log.specs.Logged.{entries_in}
use Rattle.commit_horizon.specs.Untold.{actions_in}
use Rattle.commit_horizon.proofs.untold.head_from.Given as goal

abbrev pub invariant-loop-place : goal.invariant-loop-place
invariant-loop-place l = actions_in (drop l.done (entries_in l.log)) ≡ actions_in (drop l.place (entries_in l.log))
