use Rattle.commit_horizon.specs.Merging.{heads_in}
use Rattle.commit_horizon.proofs.Leaders.{LeadsOfFirst}
use Rattle.commit_horizon.proofs.leading.find_leader.Given as goal

abbrev pub invariant-loop-k : goal.invariant-loop-k
invariant-loop-k l = LeadsOfFirst (heads_in l.heads) l.k l.first
