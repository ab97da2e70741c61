-- Actions that are run in the view after a log.
use Rattle.std.specs.Prelude.{◌≡◌, Option, Some, None, IsTrue, is_some}
use Rattle.fixed_motion.specs.declared.disk.Disk.{Disk}
use Rattle.event_stamps.specs.declared.Stamp.{Stamp}
use Rattle.event_rules.specs.declared.change.Change.{Change}
use Rattle.region_view.specs.declared.action.Placed.{Placed}
use Rattle.region_view.specs.declared.action.Action.{Action}
use Rattle.region_view.specs.Views.{ViewData, rows_in}
use Rattle.region_view.specs.Setting.{rows_at, rows_set}
use Rattle.local_run.specs.declared.entry.Entry.TheVariants.{Native}
use Rattle.event_log.specs.declared.running.HitRows.{HitRows}
use Rattle.event_log.specs.Logged.{Logged}
use Rattle.event_log.specs.Heads.{disk_or}

-- an action with what stood at the numbers of the rows that it sets
abbrev pub logged_action : ViewData → Action → Logged
logged_action view action = (Native action, rows_at (rows_in view) (rows_set (rows_in view) action))

-- another record in the same cell
abbrev pub redisked_row : Disk → Option Placed → Option Placed
redisked_row disk None = None
redisked_row disk (Some p) = Some (record { disk = disk; cell = p.cell })

-- a row that is there, and the same row with another record
pub record IsMovedRow (there : Option Placed) (disk : Disk) (rows : HitRows) : Type 0 where
  pub before : rows.before ≡ there
  pub after : rows.after ≡ redisked_row disk there
  pub is_there : IsTrue (is_some there)

-- the collision of two disks after which they have the records of these rows
abbrev pub collision : Stamp → HitRows → HitRows → Change
collision s first second = record {
  stamp = s;
  first = disk_or first.after;
  second = Some (disk_or second.after);
}
