-- The entries of a log, their stamps, and the parts of a log before a stamp and from it on.
use Rattle.std.specs.Prelude.{List, [], ◌∷◌, Option, Some, None}
use Rattle.event_stamps.specs.declared.Stamp.{Stamp}
use Rattle.event_stamps.specs.Ordered as ordered
use Rattle.region_view.specs.declared.action.Action.{Action}
use Rattle.region_view.specs.Acting.{stamp_of}
use Rattle.local_run.specs.declared.entry.Entry.{Entry}
use Rattle.local_run.specs.declared.entry.Entry.TheVariants.{Native, Heard}

-- the stamp of an entry
abbrev pub entry_stamp : Entry → Stamp
entry_stamp (Native action) = stamp_of action
entry_stamp (Heard q m) = m.stamp

-- the action, if the entry is a native one
abbrev pub native_of : Entry → Option Action
native_of (Native action) = Some action
native_of (Heard q m) = None

-- the action, if there is an entry and it is a native one
abbrev pub native_in : Option Entry → Option Action
native_in None = None
native_in (Some entry) = native_of entry

-- ---- the last
-- the last entry's stamp, or the floor if there is no entry
abbrev pub clock_of : Stamp → List Entry → Stamp
clock_of floor es = ordered.last_key entry_stamp floor es

-- the last entry's stamp, if there is an entry
abbrev pub last_entry_stamp : List Entry → Option Stamp
last_entry_stamp [] = None
last_entry_stamp (e ∷ es) = Some (clock_of (entry_stamp e) es)

-- ---- stamps of entries
-- they rise strictly, all after one
abbrev pub EntriesRiseAfter : Stamp → List Entry → Type 0
EntriesRiseAfter s es = ordered.KeysRiseAfter entry_stamp s es

-- they rise strictly, none before one
abbrev pub RiseFrom : Stamp → List Entry → Type 0
RiseFrom s es = ordered.RisesFrom entry_stamp s es

-- the entries before a stamp
abbrev pub entries_below : Stamp → List Entry → List Entry
entries_below s es = ordered.keyed_below entry_stamp s es

-- the entries from a stamp on
abbrev pub entries_from : Stamp → List Entry → List Entry
entries_from s es = ordered.keyed_from entry_stamp s es
