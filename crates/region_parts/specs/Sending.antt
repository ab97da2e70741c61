-- What is sent of an action.
use Rattle.std.specs.Prelude.{◌≡◌, ℕ, [], ◌++◌, length}
use Rattle.cell_grid.specs.Grid.{IsRegion}
use Rattle.region_view.specs.declared.action.Action.{Action}
use Rattle.region_view.specs.Acting.{stamp_of}
use Rattle.region_view.specs.Laws.{HasCells}
use Rattle.region_view.specs.Messages.{message_of, RecordsCell}
use Rattle.region_view.specs.Placing.{Placing}
use Rattle.region_view.specs.Setting.{IsInOrder}
use Rattle.region_messages.specs.Trails.{IsAfterAll}
use Rattle.local_run.specs.declared.home.Home.{Home}
use Rattle.local_run.specs.Keeping.{SendsTo}
use Rattle.local_run.specs.LocalRun.{Trails, trail_of, prepended}

-- a region may send the messages of the action: disks and action are in cells of its grid, and it sent nothing later
pub record MaySend (home : Home) (at : Placing) (x : Action) (sent : Trails) : Type 0 where
  pub number : IsRegion home.grid home.number
  pub cells : HasCells home.grid at
  pub order : IsInOrder x
  pub cell : RecordsCell home.grid x
  pub size : length sent ≡ home.grid.regions
  pub after : (to : ℕ) → SendsTo home to → IsAfterAll (trail_of sent to) (stamp_of x)

-- to each region that it sends to goes the message of the action, if there is one
pub record HasSent (home : Home) (at : Placing) (x : Action) (old new : Trails) : Type 0 where
  pub size : length new ≡ length old
  pub told : (to : ℕ) → SendsTo home to →
      trail_of new to ≡ trail_of old to ++ prepended (message_of home.grid to at x) []
