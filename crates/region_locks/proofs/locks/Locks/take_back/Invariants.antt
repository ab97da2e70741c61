use Rattle.std.proofs.Common.{◌≡◌, length}
use Rattle.region_locks.specs.Holding.{AllTaken}
use Rattle.region_locks.proofs.locks.Locks.take_back.Given as goal

abbrev pub invariant-loop-lock : goal.invariant-loop-lock
invariant-loop-lock g l = (length l.regions.items ≡ l.lock-index)
    × AllTaken g.O.Origin.opening l.fn.floor l.regions.items
