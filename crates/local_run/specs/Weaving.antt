-- A message that comes late and is taken in at its place, in the middle of a log whose later entries stay.
use Rattle.std.specs.Prelude.{◌≡◌, ◌≢◌, ◌⊎◌, ℕ, ◌<◌, List, [], ◌∷◌, ◌++◌, ⊤, Some, length}
use Rattle.std.specs.List.{Contains}
use Rattle.event_stamps.specs.declared.Stamp.{Stamp}
use Rattle.event_stamps.specs.Order.{Before}
use Rattle.region_view.specs.declared.action.Placed.{Placed}
use Rattle.region_view.specs.declared.rows.Message.{Message}
use Rattle.region_view.specs.Views.{ViewData, rows_in}
use Rattle.region_view.specs.Acting.{stamp_of}
use Rattle.region_view.specs.Setting.{RowList, set_rows, numbers_of}
use Rattle.region_view.specs.Naming.{Names, NamesAny}
use Rattle.region_messages.specs.Trails.{with_message}
use Rattle.local_run.specs.declared.home.Home.{Home}
use Rattle.local_run.specs.declared.entry.Entry.{Entry}
use Rattle.local_run.specs.declared.entry.Entry.TheVariants.{Native, Heard}
use Rattle.local_run.specs.declared.entry.TheConstants.{MAX_ENTRIES}
use Rattle.local_run.specs.Entries.{entry_stamp, EntriesRiseAfter, clock_of, entries_below, entries_from}
use Rattle.local_run.specs.LocalRun.{At, Local, trail_of, start_of, now_of, after_entry, after_log}
use Rattle.local_run.specs.LocalRun.{IsOwn, IsHearable, IsRight, sent_to}

-- ---- what has nothing to do with the message
-- the disk is one of the entry's
abbrev pub HasDisk : Entry → ℕ → Type 0
HasDisk (Native action) i = Names (stamp_of action) i
HasDisk (Heard q m) i = Contains (numbers_of m.rows) i

-- none of the entry's disks is one of the rows'
abbrev pub IsApart : RowList → Entry → Type 0
IsApart rows e = (i : ℕ) → HasDisk e i → ¬ Contains (numbers_of rows) i

-- what a disk does with the disks of the rows, if these are set, comes after a stamp
abbrev pub TouchesAfter : Home → RowList → ViewData → Stamp → ℕ → Type 0
TouchesAfter h rows view t i = (s : Stamp) → IsOwn h (set_rows view rows) s → Names s i →
    NamesAny s (numbers_of rows) → Before t s

-- each disk of a view stays as it is, or touches the disks of the rows only after a stamp
abbrev pub LeavesNear : Home → RowList → Stamp → ViewData → ViewData → Type 0
LeavesNear h rows t before after = (i : ℕ) (p : Placed) → rows_in before i ≡ Some p →
    (rows_in after i ≡ Some p) ⊎ TouchesAfter h rows before t i

-- the entries have nothing to do with the rows: neither with their disks, nor with what these would touch up to then
abbrev pub AreAside : Home → RowList → At → List Entry → Type 0
AreAside h rows a [] = ⊤
AreAside h rows a (e ∷ es) = IsApart rows e
    × LeavesNear h rows (entry_stamp e) a.view (after_entry a e).view × AreAside h rows (after_entry a e) es

-- no disk has a row in both
abbrev pub AreOthers : RowList → RowList → Type 0
AreOthers xs ys = (i : ℕ) → Contains (numbers_of xs) i → ¬ Contains (numbers_of ys) i

-- ---- weaving
-- the message of region q was heard and taken in at its place, and all else is as it was
pub record IsWoven (q : ℕ) (m : Message) (r new : Local) : Type 0 where
  pub base : new.base ≡ r.base
  pub floor : new.floor ≡ r.floor
  pub log : new.log ≡ entries_below m.stamp r.log ++ Heard q m ∷ entries_from m.stamp r.log
  pub trail : trail_of new.heard q ≡ with_message m (trail_of r.heard q)
  pub others : (k : ℕ) → k ≢ q → trail_of new.heard k ≡ trail_of r.heard k

-- a message may be woven into a log
pub record MayWeave (h : Home) (r : Local) (m : Message) : Type 0 where
  -- there is room for an entry
  pub room : length r.log < MAX_ENTRIES
  -- it is late, and no entry has its stamp
  pub late : entries_from m.stamp r.log ≢ []
  pub after : EntriesRiseAfter m.stamp (entries_from m.stamp r.log)
  -- the entries after it have nothing to do with its disks
  pub aside : AreAside h m.rows (after_log (start_of r) (entries_below m.stamp r.log))
      (entries_from m.stamp r.log)
  -- the next native event of its disks comes after them
  pub later : (s : Stamp) → IsOwn h (set_rows (now_of r).view m.rows) s →
      NamesAny s (numbers_of m.rows) → Before (clock_of r.floor r.log) s

-- then the log stays right, leads to the same view with the rows of the message set, and sends the same messages
abbrev pub WeavingKeepsRight : Type 0
WeavingKeepsRight = (h : Home) (r new : Local) (q : ℕ) (m : Message) → IsRight h r → MayWeave h r m →
    IsHearable h r.floor q (with_message m (trail_of r.heard q)) → IsWoven q m r new →
    IsRight h new
    × ((now_of new).view ≡ set_rows (now_of r).view m.rows)
    × ((k : ℕ) → sent_to h.grid k new.base new.log ≡ sent_to h.grid k r.base r.log)
