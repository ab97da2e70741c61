use Rattle.region_parts.proofs.Firsts.{IsSharedBelow}
use Rattle.region_parts.proofs.inbox.Inbox.is_shared.Given as goal

abbrev pub invariant-loop-other : goal.invariant-loop-other
invariant-loop-other l = ¬ IsSharedBelow l.self l.other l.from l.stamp
