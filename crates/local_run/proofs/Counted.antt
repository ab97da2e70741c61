-- The place in a log where a stamp would stand.
use Rattle.std.proofs.Common.{◌≡◌, ℕ, List, take, drop}
use Rattle.std.specs.List.Sorted.{IsPartitionedBy}
use Rattle.event_stamps.specs.declared.Stamp.{Stamp}
use Rattle.event_stamps.specs.Ordered.{is_before}
use Rattle.event_stamps.proofs.Rising.{rises_if_from}
use Rattle.event_stamps.proofs.Counted as counted
use Rattle.local_run.specs.declared.entry.Entry.{Entry}
use Rattle.local_run.specs.Entries.{entry_stamp, RiseFrom, entries_below, entries_from}

pub partitioned : (f t : Stamp) (log : List Entry) → RiseFrom f log →
    IsPartitionedBy (λ e. is_before (entry_stamp e) t) log
partitioned f t log r = counted.partitioned entry_stamp t log (rises_if_from entry_stamp f log r)

-- all entries before that place are before the stamp, and none from it on
abbrev pub IsPlace : Stamp → List Entry → ℕ → Type 0
IsPlace t log n = counted.IsPlace entry_stamp t log n

pub counted_below : (t : Stamp) (log : List Entry) (n : ℕ) → IsPlace t log n →
    take n log ≡ entries_below t log
counted_below t log n = counted.counted_below entry_stamp t log n

pub counted_from : (t : Stamp) (log : List Entry) (n : ℕ) → IsPlace t log n →
    drop n log ≡ entries_from t log
counted_from t log n = counted.counted_from entry_stamp t log n
