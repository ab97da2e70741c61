use Rattle.std.proofs.Common.{◌≡◌}
use Rattle.std.specs.Prelude.{All}
use Rattle.region_table.specs.Tables.{IsSeatOf, IsIdleSeat}
use Rattle.region_table.proofs.workers.starts_of.Given as goal

abbrev pub invariant-loop-worker : goal.invariant-loop-worker
invariant-loop-worker l = IsSeatOf l.fn.table l.seat × (l.seat.view.held ≡ l.fn.seat.view.held)
    × All (λ start. IsIdleSeat l.fn.table start.1) l.starts.items
