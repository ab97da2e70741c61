use Rattle.commit_horizon.proofs.Adopting.{StandUpTo}
use Rattle.commit_horizon.proofs.committed.Committed.open_all.Given as goal

abbrev pub invariant-loop-number : goal.invariant-loop-number
invariant-loop-number l = StandUpTo l.self l.number l.regions.items
