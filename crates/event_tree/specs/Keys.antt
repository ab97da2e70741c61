-- Keys, the least of them, and the tree that finds it.
use Rattle.std.specs.Prelude.{◌≡◌, ◌≢◌, ⊤, ℕ, ◌+◌, ◌*◌, ◌/◌, ◌^◌, ◌<◌, ◌≤◌, List, length, slice_index_or, Option, Some, None}
use Rattle.event_stamps.specs.declared.Stamp.{Stamp}
use Rattle.event_stamps.specs.Order.{Before}

-- the stamp of a disk's next event, if it has one
abbrev pub Key : Type 0
Key = Option Stamp

-- the key of a disk; disks past the last have none
abbrev pub key_at : List Key → ℕ → Key
key_at keys disk = slice_index_or keys disk None

-- `None` comes after all stamps
abbrev pub IsNotAfter : Key → Key → Type 0
IsNotAfter a None = ⊤
IsNotAfter None (Some t) = ⊥
IsNotAfter (Some s) (Some t) = ¬ Before t s

-- a stamp is before those that come after it, and before `None`
abbrev pub IsKeyBefore : Key → Key → Type 0
IsKeyBefore None b = ⊥
IsKeyBefore (Some s) None = ⊤
IsKeyBefore (Some s) (Some t) = Before s t

-- one of the keys, and not after any of them; none if all are none
pub record IsLeastKey (keys : List Key) (key : Key) : Type 0 where
  pub one : (s : Stamp) → key ≡ Some s → (disk : ℕ) × (key_at keys disk ≡ Some s)
  pub least : (disk : ℕ) → IsNotAfter key (key_at keys disk)

-- ---- how the keys are kept
-- one of this many keys from a place on, and not after any of them
pub record IsLeastFrom (nodes : List Key) (start many : ℕ) (key : Key) : Type 0 where
  pub one : (i : ℕ) × (i < many) × (key_at nodes (start + i) ≡ key)
  pub least : (i : ℕ) → i < many → IsNotAfter key (key_at nodes (start + i))

-- the node has the least of its children's keys; two nodes at the top have no parent
abbrev pub IsPlayed : List Key → ℕ → Type 0
IsPlayed nodes k = IsLeastFrom nodes (4 * k + 2) 4 (key_at nodes k)

-- the nodes below `first` are played, and the others have the keys
pub record IsTree (first : ℕ) (nodes : List Key) : Type 0 where
  pub most : first ≤ 2 ^ 32
  pub within : first ≤ length nodes
  pub len : 0 < length nodes → length nodes ≡ 4 * first + 2
  pub played : (k : ℕ) → k < first → IsPlayed nodes k

-- all nodes but the parent of one are played
abbrev pub IsTreeBut : ℕ → ℕ → List Key → Type 0
IsTreeBut first child nodes = (k : ℕ) → k < first → (k + 1) ≢ ((child + 2) / 4) → IsPlayed nodes k

-- room for this many keys, and none is set
pub record IsBlank (room : ℕ) (keys : List Key) : Type 0 where
  pub enough : room ≤ length keys
  pub none : (place : ℕ) → key_at keys place ≡ None
