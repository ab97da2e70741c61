use Rattle.std.proofs.Common.{◌≡◌, ◌++◌, List, length}
use Rattle.region_view.specs.declared.action.Placed.{Placed}
use Rattle.cell_sequence.specs.Run.{CellSteps}
use Rattle.cell_sequence.specs.State.{followed_by}
use Rattle.commit_horizon.proofs.following.follow_all.Given as goal

abbrev pub invariant-actions : goal.invariant-actions
invariant-actions l = record {
  follows : followed_by l.state l.untold ≡ followed_by l.fn.state l.fn.untold;
  same : l.actions.items ++ l.untold ≡ l.fn.untold;
  steps : (later : List Placed) × CellSteps l.state.rules l.state.grid l.state.placed l.untold later;
}

abbrev pub decreases-actions : goal.decreases-actions
decreases-actions l = length l.untold
