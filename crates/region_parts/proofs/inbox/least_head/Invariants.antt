use Rattle.region_parts.specs.Inbox.{inbox_of}
use Rattle.region_parts.proofs.Firsts.{IsLeastBelow}
use Rattle.region_parts.proofs.inbox.least_head.Given as goal

abbrev pub invariant-loop-from : goal.invariant-loop-from
invariant-loop-from l = IsLeastBelow (inbox_of l.heard l.taken) l.from l.least
