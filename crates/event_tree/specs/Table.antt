-- Entries of a key and a bound, four of them side by side.
use Rattle.std.specs.Prelude.{◌≡◌, ℕ, ◌+◌, ◌*◌, ◌%◌, ◌<◌, ◌≤◌, ◌^◌, List, length, map, drop}
use Rattle.event_tree.specs.Keys.{Key, IsLeastFrom, key_at}
use Rattle.event_tree.specs.Entries.{EntriesData, entries_with}
use Rattle.event_tree.specs.declared.table.Entry.{Entry}

-- the keys of some entries, given which key each rank is
abbrev pub keys_in : {K : Type 0} → (K → Key) → List (Entry K) → List Key
keys_in rank entries = map (λ e. rank e.key) entries

-- their bounds
abbrev pub bounds_in : {K : Type 0} → (K → Key) → List (Entry K) → List Key
bounds_in rank entries = map (λ e. rank e.bound) entries

-- for each disk its entry; the first three belong to no disk
abbrev pub disk_entries : {K : Type 0} → (K → Key) → List (Entry K) → EntriesData
disk_entries rank entries = entries_with (drop 3 (keys_in rank entries)) (drop 3 (bounds_in rank entries))

-- after the first three, the keys are in fours, the lead of each four is its least, and no disk is past 2^32
pub record AreLed (keys leads : List Key) : Type 0 where
  pub fours : 0 < length keys → length keys % 4 ≡ 3
  pub room : length keys ≤ 4 * length leads + 3
  pub most : length keys ≤ 2 ^ 32 + 3
  pub led : (group : ℕ) → IsLeastFrom keys (4 * group + 3) 4 (key_at leads group)
