use Rattle.std.proofs.Common.{◌≡◌, Some, slice_get}
use Rattle.event_stamps.specs.Least.{IsLeastOf}
use Rattle.region_view.specs.declared.action.Placed.{Placed}
use Rattle.cell_sequence.specs.Search.{IsNearBelow}
use Rattle.cell_sequence.proofs.search.first_near.Given as goal

abbrev pub invariant-loop-j : goal.invariant-loop-j
invariant-loop-j l = (p : Placed) → slice_get l.placed l.i ≡ Some p →
    IsLeastOf (IsNearBelow l.rules l.grid l.placed l.i p l.j) l.first
