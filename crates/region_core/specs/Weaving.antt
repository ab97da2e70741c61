-- What the tests of weaving tell, and a local run after weaving.
use Rattle.std.specs.Prelude.{◌≡◌, ℕ, ◌<◌, List, [], ◌∷◌, Option, None, Some, length, drop, All, option_map}
use Rattle.event_stamps.specs.declared.Stamp.{Stamp}
use Rattle.event_stamps.specs.Order.{Before}
use Rattle.fixed_motion.specs.declared.disk.Disk.{Disk}
use Rattle.region_view.specs.declared.action.Placed.{Placed}
use Rattle.region_view.specs.declared.rows.Message.{Message}
use Rattle.region_view.specs.Views.{ViewData, rows_in}
use Rattle.region_view.specs.Placing.{IsNative}
use Rattle.region_view.specs.Setting.{RowList, set_rows, rows_at}
use Rattle.region_messages.specs.Trails.{IsFree}
use Rattle.region_queue.specs.Queue.{QueueData, StandsFor}
use Rattle.local_run.specs.declared.entry.Entry.{Entry}
use Rattle.local_run.specs.declared.entry.TheConstants.{MAX_ENTRIES}
use Rattle.local_run.specs.Entries.{entry_stamp}
use Rattle.local_run.specs.LocalRun.{Local, trail_of}
use Rattle.local_run.specs.Weaving.{IsApart, IsWoven}
use Rattle.event_log.specs.Logged.{entries_in}
use Rattle.region_core.specs.declared.live.Live.{Live}

-- the record in a row
abbrev pub record_in : Option Placed → Option Disk
record_in row = option_map (λ p. p.disk) row

-- the rows were set, and each native candidate comes after a stamp then; or the view is as it was
abbrev pub IsSetLate : Stamp → ViewData → RowList → QueueData → ViewData → RowList → Option Stamp → Type 0
IsSetLate last view rows queue new back None = (new ≡ set_rows view rows)
    × (back ≡ rows_at (rows_in view) rows) × StandsFor queue new
    × ((s : Stamp) → IsNative queue.rules queue.grid queue.region (rows_in new) s → Before last s)
IsSetLate last view rows queue new back (Some s) = (new ≡ view) × StandsFor queue new

-- there is a first entry, and it comes after a stamp
abbrev pub BeginsAfter : Stamp → List Entry → Type 0
BeginsAfter s [] = ⊥
BeginsAfter s (e ∷ es) = Before s (entry_stamp e)

-- by the log alone, a message of region q may come before the entries from a place on
pub record IsTried (q kept : ℕ) (m : Message) (live : Live) : Type 0 where
  pub room : length live.log < MAX_ENTRIES
  pub late : BeginsAfter m.stamp (drop kept (entries_in live.log))
  pub free : IsFree m.stamp (trail_of live.inbox.heard q)
  pub apart : All (IsApart m.rows) (drop kept (entries_in live.log))

-- if there is no hindrance, the local run has the message woven in; else it is as it was
abbrev pub Weaves : ℕ → Message → Local → Option Stamp → Local → Type 0
Weaves q m r None new = IsWoven q m r new
Weaves q m r (Some at) new = new ≡ r
