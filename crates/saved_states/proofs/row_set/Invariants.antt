use Rattle.std.proofs.Common.{◌≡◌, take, Option, MatchOption}
use Rattle.region_view.specs.declared.action.Placed.{Placed}
use Rattle.region_view.specs.Setting.{get_over}
use Rattle.saved_states.proofs.row_set.Given as goal

abbrev pub invariant-loop-row : goal.invariant-loop-row
invariant-loop-row l = (before : Option Placed) →
    MatchOption l.found (get_over (take l.row-index l.rows) l.disk before ≡ before)
    (λ row. get_over (take l.row-index l.rows) l.disk before ≡ row)
