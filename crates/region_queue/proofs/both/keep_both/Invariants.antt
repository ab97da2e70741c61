-- Those disks so far that may hit are kept in each list.
use Rattle.event_rules.specs.Rounded.{IsReachOf}
use Rattle.region_view.specs.Views.{rows_in}
use Rattle.region_queue.specs.Finding.{IsMissed}
use Rattle.region_queue.proofs.Keeping.{IsKeeping}
use Rattle.region_queue.proofs.both.keep_both.Given as goal

abbrev pub invariant-loop-place : goal.invariant-loop-place
invariant-loop-place l =
    IsKeeping (λ i. IsMissed (λ rules. IsReachOf rules l.one.disk l.other.disk l.fn.reach) l.one.disk (rows_in l.view i)) l.fn.near l.near l.place l.kept
    × IsKeeping (λ i. IsMissed (λ rules. IsReachOf rules l.one.disk l.other.disk l.fn.reach) l.other.disk (rows_in l.view i)) l.fn.near l.near_other l.place l.kept_other
