use Rattle.std.proofs.Common.{◌≡◌, ℕ, ◌+◌, take, get_or}
use Rattle.event_log.specs.Logged.{entries_in}
use Rattle.local_run.specs.Taken.{taken_of}
use Rattle.region_parts.proofs.inbox.changes.recount.Given as goal

abbrev pub invariant-loop-i : goal.invariant-loop-i
invariant-loop-i l = (q : ℕ) → get_or l.counts q 0 + taken_of q (take l.from (entries_in l.log))
    ≡ taken_of q (take l.i (entries_in l.log))
