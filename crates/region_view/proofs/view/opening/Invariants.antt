use Rattle.std.proofs.Common.{slice_get}
use Rattle.region_view.proofs.Seen.{IsViewBelow}
use Rattle.region_view.proofs.view.opening.Given as goal

abbrev pub invariant-loop-i : goal.invariant-loop-i
invariant-loop-i l = IsViewBelow l.grid l.region (slice_get l.placed) l.i l.view
