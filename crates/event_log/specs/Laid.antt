-- Entries where they are kept.
use Rattle.std.specs.Prelude.{◌+◌, ◌≤◌, length}
use Rattle.event_log.specs.declared.reading.Laid.{Laid}
use Rattle.event_log.specs.Logged.{Logged}
use Rattle.event_log.specs.Heads.{row_count, whole_count, logged, IsOrdered}

-- the entry of the head, and the rows that lead back over it
abbrev pub logged_by : Laid → Logged
logged_by l = logged l.rows.now l.wholes.now l.head.now

-- its narrow rows are there
abbrev pub HasRows : Laid → Type 0
HasRows l = l.head.now.row + row_count l.head.now.form ≤ length l.rows.now

-- it is there among the entries kept whole, if it is one of them
abbrev pub HasWhole : Laid → Type 0
HasWhole l = l.head.now.whole + whole_count l.head.now.form ≤ length l.wholes.now

-- the disks of a pair are in order
abbrev pub HasOrder : Laid → Type 0
HasOrder l = IsOrdered l.head.now.stamp l.head.now.form
