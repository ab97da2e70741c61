use Rattle.commit_horizon.proofs.Adopting.{AdoptedUpTo}
use Rattle.commit_horizon.proofs.committed.Committed.renew_all.Given as goal

abbrev pub invariant-loop-number : goal.invariant-loop-number
invariant-loop-number l = AdoptedUpTo l.self l.fn.regions l.number l.regions
