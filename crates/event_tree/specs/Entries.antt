-- A key and a bound of each disk.
use Rattle.std.specs.Prelude.{◌≡◌, ◌≢◌, ℕ, ◌≤◌, List, [], length}
use Rattle.event_tree.specs.Keys.{Key, key_at}

-- for each disk its key and its bound
pub record EntriesData : Type 0 where
  pub keys : List Key
  pub bounds : List Key

-- the entries with these keys and bounds
abbrev pub entries_with : List Key → List Key → EntriesData
entries_with keys bounds = record { keys = keys; bounds = bounds }

-- no disk has either
abbrev pub is_empty : EntriesData
is_empty = entries_with [] []

-- a disk's key, and its bound
abbrev pub entry_at : EntriesData → ℕ → Key × Key
entry_at entries disk = (key_at entries.keys disk, key_at entries.bounds disk)

-- one disk has this entry, and the others have theirs
pub record IsEntered (disk : ℕ) (entry : Key × Key) (old new : EntriesData) : Type 0 where
  pub set : entry_at new disk ≡ entry
  pub others : (other : ℕ) → other ≢ disk → entry_at new other ≡ entry_at old other

-- each disk has the same entry
abbrev pub AreSame : EntriesData → EntriesData → Type 0
AreSame old new = (disk : ℕ) → entry_at new disk ≡ entry_at old disk

-- room for this many disks, and the same entries
pub record IsRoomier (old : EntriesData) (room : ℕ) (new : EntriesData) : Type 0 where
  pub enough : room ≤ length new.keys
  pub same : AreSame old new
