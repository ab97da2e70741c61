-- Entries of a log, and the rows that lead back over them.
use Rattle.std.specs.Prelude.{ℕ, List, [], ◌∷◌, map, slice_get, ◌==◌, Bool, true, false, if◌then◌else◌, Option, Some, None}
use Rattle.event_stamps.specs.declared.Stamp.{Stamp}
use Rattle.region_view.specs.declared.action.Action.{Action}
use Rattle.region_view.specs.Setting.{RowList}
use Rattle.local_run.specs.declared.entry.Entry.{Entry}
use Rattle.local_run.specs.declared.entry.Entry.TheVariants.{Native, Heard}
use Rattle.local_run.specs.Entries.{entry_stamp, native_in}

-- an entry, and the rows that lead back over it
abbrev pub Logged : Type 0
Logged = Entry × RowList

-- the stamp of an entry
abbrev pub logged_stamp : Logged → Stamp
logged_stamp l = entry_stamp l.0

-- the entries of a log, oldest first
abbrev pub entries_in : List Logged → List Entry
entries_in log = map (λ l. l.0) log

-- the rows that lead back over each
abbrev pub backs_in : List Logged → List RowList
backs_in log = map (λ l. l.1) log

-- the stamp of each
abbrev pub stamps_in : List Logged → List Stamp
stamps_in log = map logged_stamp log

-- the action at a place, if there is an entry and it is a native one
abbrev pub native_at : List Logged → ℕ → Option Action
native_at log i = native_in (slice_get (entries_in log) i)

-- the region that sent the message of an entry
abbrev pub sender_of : Entry → Option ℕ
sender_of (Native action) = None
sender_of (Heard q m) = Some q

-- the sender of each
abbrev pub senders_in : List Logged → List (Option ℕ)
senders_in log = map (λ l. sender_of l.0) log

-- whether one of some rows is that of a disk
abbrev pub sets : ℕ → RowList → Bool
sets disk [] = false
sets disk (r ∷ rows) = if r.0 == disk then true else sets disk rows

-- whether each entry sets the row of a disk
abbrev pub setters_in : ℕ → List Logged → List Bool
setters_in disk log = map (λ l. sets disk l.1) log
