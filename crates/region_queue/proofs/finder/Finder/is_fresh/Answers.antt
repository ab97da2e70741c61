-- The stamp is that of a pair.
use Rattle.std.proofs.lemmas.Bool.{both_ways}
use Rattle.region_queue.proofs.finder.Finder.is_fresh.Goals as goal

pub returns-else-ne-clause-fresh : goal.returns-else-ne-clause-fresh
returns-else-ne-clause-fresh c = λ yes pair. c.has_pair.ensures.0 yes

pub returns-else-ne-clause-stale : goal.returns-else-ne-clause-stale
returns-else-ne-clause-stale c = λ no found. both_ways c.has_pair.result no (c.has_pair.ensures.1 found)

pub returns-then-ne-clause-stale : goal.returns-then-ne-clause-stale
returns-then-ne-clause-stale c = λ no found. both_ways c.ne.result no c.if-ne.true

pub returns-then-ne-clause-fresh : goal.returns-then-ne-clause-fresh
returns-then-ne-clause-fresh c = λ yes pair. absurd (both_ways c.ne.result (rw pair at c.ne.ensures) yes)
