-- What the keys of the disks guarantee.
use Rattle.std.specs.Prelude.{◌≡◌, ℕ, List, Some, IfSome}
use Rattle.event_stamps.specs.declared.Stamp.{Stamp}
use Rattle.event_stamps.specs.declared.Kind.TheVariants.{Pair}
use Rattle.event_tree.specs.Keys.{Key, IsNotAfter, IsLeastKey, key_at}
use Rattle.region_view.specs.Naming.{Names}

-- a disk's key and the bound of its pairs: both name the disk; the key is a candidate unless it is that of a pair; and
-- it is after none of the disk's candidates by itself, nor after the bound
pub record IsKey (C : Stamp → Type 0) (disk : ℕ) (key bound : Key) : Type 0 where
  pub named : (s : Stamp) → key ≡ Some s → Names s disk
  pub bound_named : (s : Stamp) → bound ≡ Some s → Names s disk
  pub alone : (s : Stamp) → key ≡ Some s → ¬ (s.kind ≡ Pair) → C s
  pub single : (s : Stamp) → C s → ¬ (s.kind ≡ Pair) → s.first ≡ disk → IsNotAfter key (Some s)
  pub below : IsNotAfter key bound

-- a disk has such a key, and its bound is after none of its pairs
pub record IsLowered (C : Stamp → Type 0) (disk : ℕ) (entry : Key × Key) : Type 0 where
  pub key : IsKey C disk entry.0 entry.1
  pub pairs : (s : Stamp) → C s → s.kind ≡ Pair → Names s disk → IsNotAfter entry.1 (Some s)

-- each disk has such a key, and each pair has a disk whose bound isn't after it
pub record Covers (C : Stamp → Type 0) (keys bounds : List Key) : Type 0 where
  pub each : (disk : ℕ) → IsKey C disk (key_at keys disk) (key_at bounds disk)
  pub paired : (s : Stamp) → C s → s.kind ≡ Pair → (disk : ℕ) × Names s disk × IsNotAfter (key_at bounds disk) (Some s)

-- the least key is a candidate
abbrev pub IsSettled : (Stamp → Type 0) → List Key → Type 0
IsSettled C keys = (key : Key) → IsLeastKey keys key → IfSome key C
