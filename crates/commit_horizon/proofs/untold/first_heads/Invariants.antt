use Rattle.std.specs.Prelude.{map}
use Rattle.event_log.specs.Logged.{entries_in}
use Rattle.commit_horizon.specs.Merging.{heads_in}
use Rattle.commit_horizon.specs.Untold.{AreFirstHeads}
use Rattle.commit_horizon.proofs.untold.first_heads.Given as goal

abbrev pub invariant-loop-log : goal.invariant-loop-log
invariant-loop-log l = AreFirstHeads (map entries_in l.logs) l.log-index (heads_in l.heads.items)
