-- Bounds within which the sums of a change fit their types.
use Rattle.std.specs.Prelude.{◌≡◌, ℕ, ◌^◌, List, slice_get, ⊤, Option, Some, None}
use Rattle.plane_vectors.specs.Vectors.{IsWithin}
use Rattle.fixed_motion.specs.declared.disk.Disk.{Disk}
use Rattle.fixed_motion.specs.Motion.{IsInBox, centre_of, velocity_of}
use Rattle.event_rules.specs.declared.change.Change.{Change}

-- a record in the greatest box, within the greatest speed limit
pub record IsNear (a : Disk) : Type 0 where
  pub centre : IsInBox (centre_of a)
  pub velocity : IsWithin (2 ^ 20) (velocity_of a)

-- the same of a record, if there is one
abbrev pub IsNearIfSome : Option Disk → Type 0
IsNearIfSome None = ⊤
IsNearIfSome (Some b) = IsNear b

-- such records alone
abbrev pub AreNear : List Disk → Type 0
AreNear disks = (i : ℕ) (a : Disk) → slice_get disks i ≡ Some a → IsNear a

-- a change of a state, with such records
pub record IsSummable (disks : List Disk) (c : Change) : Type 0 where
  pub before : AreNear disks
  pub first : IsNear c.first
  pub second : IsNearIfSome c.second
