-- How the disks of some cells are gathered: the first of each cell, and then the next of each that was gathered.
use Rattle.std.specs.Prelude.{◌≡◌, ◌↔◌, ◌⊎◌, ℕ, ◌<◌, ◌≤◌, List, [], ◌∷◌, ◌++◌, length, take, drop, slice_index_or, Option, Some, None, IsSomeAnd}
use Rattle.std.specs.List.{Contains}
use Rattle.cell_lists.specs.declared.pointer.Pointer.{Pointer}
use Rattle.cell_lists.specs.declared.places.Places.{Places}
use Rattle.cell_lists.specs.Pointer.{disk_of, SaysMore}
use Rattle.cell_lists.specs.Places.{Holds}
use Rattle.cell_lists.specs.Firsts.{IsFirstOf}
use Rattle.cell_lists.specs.Chain.{ChainsData, IsCellOf}

-- the list with a number appended, if there is one
abbrev pub with_offered : List ℕ → Option ℕ → List ℕ
with_offered disks None = disks
with_offered disks (Some disk) = disks ++ (disk ∷ [])

-- each cell in which a disk is listed has a bucket of its own: that of its number
abbrev pub HaveOwnBuckets : ChainsData → Type 0
HaveOwnBuckets chains = (disk cell : ℕ) → IsCellOf chains.cells cell disk → cell < chains.buckets

-- each of the disks is listed in a cell
abbrev pub AreAllListed : List (Option ℕ) → List ℕ → Type 0
AreAllListed cells disks = (disk : ℕ) → Contains disks disk → (cell : ℕ) × IsCellOf cells cell disk

-- the disk is in the cell of one of these, and is this one or after it
abbrev pub IsFromOneOf : List (Option ℕ) → List ℕ → ℕ → Type 0
IsFromOneOf cells starts disk =
    (start : ℕ) × Contains starts start × ((cell : ℕ) × IsCellOf cells cell start × IsCellOf cells cell disk × (start ≤ disk))

-- these disks are in such cells, and each disk of such a cell is one of these or after one in its cell
pub record AreStarts (cells : List (Option ℕ)) (IsSuch : ℕ → Type 0) (starts : List ℕ) : Type 0 where
  pub listed : (disk : ℕ) → Contains starts disk → (cell : ℕ) × IsCellOf cells cell disk × IsSuch cell
  pub all : (disk cell : ℕ) → IsCellOf cells cell disk → IsSuch cell → IsFromOneOf cells starts disk

-- such disks were added at the end
abbrev pub StartsAdded : List (Option ℕ) → (ℕ → Type 0) → List ℕ → List ℕ → Type 0
StartsAdded cells IsSuch old new = (starts : List ℕ) × (new ≡ old ++ starts) × AreStarts cells IsSuch starts

-- a greater disk is in the cell of this one
abbrev pub HasLater : List (Option ℕ) → ℕ → Type 0
HasLater cells disk = (cell : ℕ) × (later : ℕ) × IsCellOf cells cell disk × IsCellOf cells cell later × (disk < later)

-- the pointer says that its disk has a next one if and only if a greater disk is in its cell
abbrev pub SaysLater : List (Option ℕ) → Pointer → Type 0
SaysLater cells pointer = SaysMore pointer ↔ IsSomeAnd (disk_of pointer) (HasLater cells)

-- the pointer leads to the first disk of the cell from a number on, and says whether a greater one is in the cell
abbrev pub LeadsIn : List (Option ℕ) → ℕ → ℕ → Pointer → Type 0
LeadsIn cells cell from pointer = IsFirstOf (IsCellOf cells cell) from (disk_of pointer) × SaysLater cells pointer

-- these are the places, from the first on, of the disks that have a greater one in their cell
abbrev pub ArePending : List (Option ℕ) → ℕ → List ℕ → Places → Type 0
ArePending cells first disks places = (p : ℕ) → (Holds places p ↔ ((first ≤ p) × (p < length disks) × HasLater cells (slice_index_or disks p 0)))

-- this many disks stay, and the others are now those that are in the cell of one of the old others, and are this one or
-- after it
pub record AreFollowed (cells : List (Option ℕ)) (first : ℕ) (old new : List ℕ) : Type 0 where
  pub kept : take first new ≡ take first old
  pub all : (disk : ℕ) → (Contains (drop first new) disk ↔ IsFromOneOf cells (drop first old) disk)

-- the new disks are the old ones and those that are listed in such cells
abbrev pub AreGatheredIn : List (Option ℕ) → (ℕ → Type 0) → List ℕ → List ℕ → Type 0
AreGatheredIn cells IsSuch old new = (disk : ℕ) →
    Contains new disk ↔ (Contains old disk ⊎ ((cell : ℕ) × IsCellOf cells cell disk × IsSuch cell))
