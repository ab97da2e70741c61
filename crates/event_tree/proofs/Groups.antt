-- The least key of each four disks leads.
use Rattle.std.proofs.Common.{◌≡◌, ◌≢◌, ℕ, ◌+◌, ◌-◌, ◌*◌, ◌/◌, ◌%◌, ◌^◌, ◌<◌, ◌≤◌, List, length, drop, set, get_or, replicate, map, take, below_more, arith, sym, ap, subst, ◌∙◌, inl, inr}
use Rattle.std.specs.Prelude.{None}
use Rattle.std.proofs.lemmas.List.{get_or-drop, get_or-set_same, get_or-set_other, get_or_past, get_or_default, length-drop, length-map, length-set, length-replicate, map-set}
use Rattle.event_tree.specs.Keys.{Key, IsNotAfter, IsLeastKey, IsLeastFrom, IsBlank, key_at}
use Rattle.event_tree.specs.Entries.{EntriesData, IsEntered, AreSame, entry_at}
use Rattle.event_tree.specs.Table.{keys_in, bounds_in, disk_entries, AreLed}
use Rattle.event_tree.specs.declared.table.Entry.{Entry}
use Rattle.event_tree.proofs.Trees.{not_after_trans, at_same, same_or_not, same_least, key_read, one_of_four, blank_keys, none_at}

-- ---- the least
pub led_least : (keys leads : List Key) (top : Key) → AreLed keys leads → IsLeastKey leads top → IsLeastKey (drop 3 keys) top
led_least keys leads top are least = record {
  one = λ s is.
      let lead = least.one s is in
      let one = (are.led lead.0).one in (
        4 * lead.0 + one.0,
        get_or-drop 3 keys (4 * lead.0 + one.0) None
            ∙ at_same keys (3 + (4 * lead.0 + one.0)) (4 * lead.0 + 3 + one.0) (omega arith) ∙ one.2 ∙ lead.1,
      );
  least = λ disk.
      rw (get_or-drop 3 keys disk None)
      (subst (λ (key : Key). IsNotAfter top key) (at_same keys (4 * (disk / 4) + 3 + disk % 4) (3 + disk) (omega arith))
      (not_after_trans top (key_at leads (disk / 4)) (key_at keys (4 * (disk / 4) + 3 + disk % 4)) (least.least (disk / 4))
      ((are.led (disk / 4)).least (disk % 4) (omega arith))));
}

-- one of the four that were cut out
pub one_of_group : {K : Type 0} (rank : K → Key) (entries : List (Entry K)) (start i place : ℕ) (entry : Entry K) → i < 4 → start + i ≡ place →
    entry ≡ get_or (take (start + 4 - start) (drop start entries)) i entry →
    rank (get_or (take (start + 4 - start) (drop start entries)) i entry).key
    ≡ get_or (keys_in rank entries) place (rank (get_or (take (start + 4 - start) (drop start entries)) i entry).key)
one_of_group rank entries start i place entry lt at read =
    subst (λ (e : Entry _). rank e.key ≡ get_or (keys_in rank entries) place (rank e.key)) read
    (one_of_four (λ (e : Entry _). rank e.key) entries start i place entry lt at read)

-- ---- the keys or the bounds of entries
-- what is read of a disk's entry
column_read : {E : Type 0} (rank : E → Key) (entries : List E) (disk : ℕ) (entry : E) → disk < length (drop 3 (map rank entries)) →
    entry ≡ get_or entries (disk + 3) entry → rank entry ≡ key_at (drop 3 (map rank entries)) disk
column_read rank entries disk entry within read =
    let column = map rank entries in
    let left = length-drop 3 column in
    key_read rank entries (disk + 3) entry read ∙ get_or_default column (disk + 3) (rank entry) None (omega arith)
    ∙ at_same column (disk + 3) (3 + disk) (omega arith) ∙ sym (get_or-drop 3 column disk None)

column_room : {E : Type 0} (rank : E → Key) (entries : List E) → length (drop 3 (map rank entries)) ≡ length entries - 3
column_room rank entries = length-drop 3 (map rank entries) ∙ ap (λ (n : ℕ). n - 3) (length-map entries rank)

-- one entry is set
column_set : {E : Type 0} (rank : E → Key) (entries : List E) (disk : ℕ) (entry : E) → disk < length (drop 3 (map rank entries)) →
    key_at (drop 3 (map rank (set entries (disk + 3) entry))) disk ≡ rank entry
column_set rank entries disk entry within =
    let column = map rank entries in
    let left = length-drop 3 column in
    ap (λ (keys : List Key). key_at (drop 3 keys) disk) (map-set rank entries (disk + 3) entry)
    ∙ get_or-drop 3 (set column (disk + 3) (rank entry)) disk None
    ∙ at_same (set column (disk + 3) (rank entry)) (3 + disk) (disk + 3) (omega arith)
    ∙ get_or-set_same column (disk + 3) (rank entry) None (omega arith)

column_kept : {E : Type 0} (rank : E → Key) (entries : List E) (disk other : ℕ) (entry : E) → other ≢ disk →
    key_at (drop 3 (map rank (set entries (disk + 3) entry))) other ≡ key_at (drop 3 (map rank entries)) other
column_kept rank entries disk other entry apart =
    let column = map rank entries in
    ap (λ (keys : List Key). key_at (drop 3 keys) other) (map-set rank entries (disk + 3) entry)
    ∙ get_or-drop 3 (set column (disk + 3) (rank entry)) other None
    ∙ get_or-set_other column (disk + 3) (3 + other) (rank entry) None (omega arith) ∙ sym (get_or-drop 3 column other None)

-- blank entries
column_blank : {E : Type 0} (rank : E → Key) (entries : List E) (n : ℕ) (blank : E) → entries ≡ replicate n blank → rank blank ≡ None →
    (disk : ℕ) → key_at (drop 3 (map rank entries)) disk ≡ None
column_blank rank entries n blank is none disk =
    get_or-drop 3 (map rank entries) disk None
    ∙ ap (λ (keys : List Key). key_at keys (3 + disk)) (blank_keys rank entries n blank is none) ∙ none_at n (3 + disk)

-- ---- entries
pub both_same : (a b c d : Key) → a ≡ b → c ≡ d → ◌≡◌ {A = Key × Key} (a, c) (b, d)
both_same a b c d p q i = (p i, q i)

pub no_key : (now : EntriesData) (disk : ℕ) → length now.keys ≤ disk → None ≡ key_at now.keys disk
no_key now disk past = sym (get_or_past now.keys disk None past)

module _ {K : Type 0} (rank : K → Key) where
  pub room_in : (entries : List (Entry K)) → length (drop 3 (keys_in rank entries)) ≡ length entries - 3
  room_in entries = column_room (λ (e : Entry K). rank e.key) entries

  same_room : (entries : List (Entry K)) → length (drop 3 (keys_in rank entries)) ≡ length (drop 3 (bounds_in rank entries))
  same_room entries = room_in entries ∙ sym (column_room (λ (e : Entry K). rank e.bound) entries)

  held : (entries : List (Entry K)) (now : EntriesData) (disk : ℕ) → disk_entries rank entries ≡ now → disk < length now.keys →
      disk < length (drop 3 (keys_in rank entries))
  held entries now disk view within = subst (λ (d : EntriesData). disk < length d.keys) (sym view) within

  pub within : (entries : List (Entry K)) (now : EntriesData) (disk : ℕ) → disk_entries rank entries ≡ now → disk < length now.keys →
      disk + 3 < length entries
  within entries now disk view lt =
      let room = room_in entries in
      let here = held entries now disk view lt in
      omega arith

  pub key_of_disk : (entries : List (Entry K)) (now : EntriesData) (disk : ℕ) (entry : Entry K) → disk_entries rank entries ≡ now →
      disk < length now.keys → entry ≡ get_or entries (disk + 3) entry → rank entry.key ≡ key_at now.keys disk
  key_of_disk entries now disk entry view lt read =
      column_read (λ (e : Entry K). rank e.key) entries disk entry (held entries now disk view lt) read
      ∙ ap (λ (d : EntriesData). key_at d.keys disk) view

  pub bound_of_disk : (entries : List (Entry K)) (now : EntriesData) (disk : ℕ) (entry : Entry K) → disk_entries rank entries ≡ now →
      disk < length now.keys → entry ≡ get_or entries (disk + 3) entry → rank entry.bound ≡ key_at now.bounds disk
  bound_of_disk entries now disk entry view lt read =
      let same = same_room entries in
      let here = held entries now disk view lt in
      column_read (λ (e : Entry K). rank e.bound) entries disk entry (omega arith) read
      ∙ ap (λ (d : EntriesData). key_at d.bounds disk) view

  pub entry_of_disk : (entries : List (Entry K)) (now : EntriesData) (disk : ℕ) (entry : Entry K) → disk_entries rank entries ≡ now →
      disk < length now.keys → entry ≡ get_or entries (disk + 3) entry → (rank entry.key, rank entry.bound) ≡ entry_at now disk
  entry_of_disk entries now disk entry view lt read =
      both_same (rank entry.key) (key_at now.keys disk) (rank entry.bound) (key_at now.bounds disk)
      (key_of_disk entries now disk entry view lt read) (bound_of_disk entries now disk entry view lt read)

  pub no_bound : (entries : List (Entry K)) (now : EntriesData) (disk : ℕ) → disk_entries rank entries ≡ now → length now.keys ≤ disk →
      None ≡ key_at now.bounds disk
  no_bound entries now disk view past =
      let same = same_room entries in
      let here : length (drop 3 (keys_in rank entries)) ≤ disk = subst (λ (d : EntriesData). length d.keys ≤ disk) (sym view) past in
      sym (get_or_past (drop 3 (bounds_in rank entries)) disk None (omega arith))
      ∙ ap (λ (d : EntriesData). key_at d.bounds disk) view

  pub no_entry : (entries : List (Entry K)) (now : EntriesData) (disk : ℕ) → disk_entries rank entries ≡ now → length now.keys ≤ disk →
      (None, None) ≡ entry_at now disk
  no_entry entries now disk view past =
      both_same None (key_at now.keys disk) None (key_at now.bounds disk) (no_key now disk past) (no_bound entries now disk view past)

  pub entered : (entries : List (Entry K)) (now : EntriesData) (disk : ℕ) (entry : Entry K) → disk_entries rank entries ≡ now →
      disk < length now.keys → IsEntered disk (rank entry.key, rank entry.bound) now (disk_entries rank (set entries (disk + 3) entry))
  entered entries now disk entry view lt =
      let same = same_room entries in
      let here = held entries now disk view lt in
      let key = λ (e : Entry K). rank e.key in
      let bound = λ (e : Entry K). rank e.bound in
      subst (λ (d : EntriesData). IsEntered disk (rank entry.key, rank entry.bound) d (disk_entries rank (set entries (disk + 3) entry))) view
      record {
        set = both_same _ _ _ _ (column_set key entries disk entry here) (column_set bound entries disk entry (omega arith));
        others = λ other apart.
            both_same _ _ _ _ (column_kept key entries disk other entry apart) (column_kept bound entries disk other entry apart);
      }

  -- ---- no key and no bound of any disk
  pub same_entry : (a b : Entry K) → b.key ≡ a.key → b.bound ≡ a.bound → b ≡ a
  same_entry a b key bound i = record { key = key i; bound = bound i }

  pub blank_led : (entries : List (Entry K)) (leads : List Key) (groups : ℕ) (blank : Entry K) → groups ≤ 2 ^ 30 →
      entries ≡ replicate (4 * groups + 3) blank → rank blank.key ≡ None → IsBlank groups leads → AreLed (keys_in rank entries) leads
  blank_led entries leads groups blank few is none free =
      let keys = blank_keys (λ (e : Entry K). rank e.key) entries (4 * groups + 3) blank is none in
      let len : length (keys_in rank entries) ≡ 4 * groups + 3 = ap length keys ∙ length-replicate {A = Key} (4 * groups + 3) None in
      let enough = free.enough in
      record {
        fours = λ some. omega arith;
        room = omega arith;
        most = omega arith;
        led = λ group. blank_least (keys_in rank entries) leads group
            (λ i. ap (λ (ks : List Key). key_at ks i) keys ∙ none_at (4 * groups + 3) i) free.none;
      }
    where
      blank_least : (keys leads : List Key) (group : ℕ) → ((i : ℕ) → key_at keys i ≡ None) → ((i : ℕ) → key_at leads i ≡ None) →
          IsLeastFrom keys (4 * group + 3) 4 (key_at leads group)
      blank_least keys leads group none free = record {
        one = (0, omega arith, none (4 * group + 3 + 0) ∙ sym (free group));
        least = λ i lt. rw (none (4 * group + 3 + i)) tt;
      }

  pub blank_entries : (entries : List (Entry K)) (n : ℕ) (blank : Entry K) → entries ≡ replicate n blank → rank blank.key ≡ None →
      rank blank.bound ≡ None → (disk : ℕ) → entry_at (disk_entries rank entries) disk ≡ (None, None)
  blank_entries entries n blank is no_key no_bound disk =
      both_same _ _ _ _ (column_blank (λ (e : Entry K). rank e.key) entries n blank is no_key disk)
      (column_blank (λ (e : Entry K). rank e.bound) entries n blank is no_bound disk)

  pub blank_room : (entries : List (Entry K)) (n : ℕ) (blank : Entry K) → entries ≡ replicate (n + 3) blank →
      length (drop 3 (keys_in rank entries)) ≡ n
  blank_room entries n blank is =
      let len = ap length is ∙ length-replicate {A = Entry K} (n + 3) blank in
      let room = room_in entries in
      omega arith

-- a group is led again
pub led_again : (keys leads : List Key) (disk : ℕ) (key least : Key) → AreLed keys leads → disk + 3 < length keys →
    IsLeastFrom (set keys (disk + 3) key) (4 * (disk / 4) + 3) 4 least → AreLed (set keys (disk + 3) key) (set leads (disk / 4) least)
led_again keys leads disk key least are within lead =
    let len = are.fours (omega arith) in
    let room = are.room in
    let most = are.most in
    let long = length-set keys (disk + 3) key in
    let many = length-set leads (disk / 4) least in
    record {
      fours = λ some. omega arith;
      room = omega arith;
      most = omega arith;
      led = λ group. elim (same_or_not group (disk / 4)) [
        | inl same ↦
            subst (λ (g : ℕ). IsLeastFrom (set keys (disk + 3) key) (4 * g + 3) 4 (key_at (set leads (disk / 4) least) g)) (sym same)
            (subst (λ (top : Key). IsLeastFrom (set keys (disk + 3) key) (4 * (disk / 4) + 3) 4 top)
            (sym (get_or-set_same leads (disk / 4) least None (omega arith))) lead)
        | inr apart ↦
            subst (λ (top : Key). IsLeastFrom (set keys (disk + 3) key) (4 * group + 3) 4 top)
            (sym (get_or-set_other leads (disk / 4) group least None apart))
            (same_least keys (set keys (disk + 3) key) (4 * group + 3) 4 (key_at leads group)
            (λ i lt. sym (get_or-set_other keys (disk + 3) (4 * group + 3 + i) key None (omega arith)))
            (are.led group))
      ];
    }

-- ---- entries one after another
pub entered_more : (old new next : EntriesData) (disk : ℕ) (entry : Key × Key) → entry ≡ entry_at old disk →
    ((i : ℕ) → i < disk → entry_at new i ≡ entry_at old i) → IsEntered disk entry new next →
    (i : ℕ) → i < disk + 1 → entry_at next i ≡ entry_at old i
entered_more old new next disk entry is before put = below_more _ _
    (λ i lt. put.others i (omega arith) ∙ before i lt)
    (put.set ∙ is)

pub entered_free : (new next : EntriesData) (disk : ℕ) (entry : Key × Key) →
    ((i : ℕ) → disk ≤ i → entry_at new i ≡ (None, None)) → IsEntered disk entry new next →
    (i : ℕ) → disk + 1 ≤ i → entry_at next i ≡ (None, None)
entered_free new next disk entry free put i past = put.others i (omega arith) ∙ free i (omega arith)

pub entered_after : (old mid new : EntriesData) (disk : ℕ) (entry : Key × Key) → AreSame old mid → IsEntered disk entry mid new →
    IsEntered disk entry old new
entered_after old mid new disk entry same put = record {
  set = put.set;
  others = λ other apart. put.others other apart ∙ same other;
}
