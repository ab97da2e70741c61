-- When a state may go on by actions that were made final.
use Rattle.event_stamps.specs.declared.Stamp.{Stamp}
use Rattle.event_stamps.specs.Order.{Before, end_stamp}
use Rattle.std.specs.Prelude.{List}
use Rattle.region_view.specs.declared.action.Action.{Action}
use Rattle.cell_sequence.specs.Run.{CellSteps}
use Rattle.cell_sequence.specs.State.{CellStateData, followed_by, HasNoneBelow}

-- the cell run does the actions next; the floor isn't before the last of them nor after the end, and no event is left
-- before it then
pub record MayFollow (state : CellStateData) (actions : List Action) (floor : Stamp) : Type 0 where
  pub steps : CellSteps state.rules state.grid state.placed actions (followed_by state actions).placed
  pub not_lowered : ¬ Before floor (followed_by state actions).floor
  pub in_time : ¬ Before (end_stamp state.rules.end) floor
  pub none_below : HasNoneBelow (followed_by state actions) floor
