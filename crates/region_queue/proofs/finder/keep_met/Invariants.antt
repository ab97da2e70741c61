-- Those disks so far that may hit are kept.
use Rattle.std.specs.Prelude.{None, slice_index_or}
use Rattle.region_queue.specs.Finding.{IsMissed, IsReachSquare}
use Rattle.region_queue.proofs.Keeping.{IsKeeping}
use Rattle.region_queue.proofs.finder.keep_met.Given as goal

abbrev pub invariant-loop-place : goal.invariant-loop-place
invariant-loop-place l =
    IsKeeping (λ i. IsMissed (IsReachSquare l.fn.square l.disk) l.disk (slice_index_or l.rows i None)) l.fn.near l.near l.place l.kept
