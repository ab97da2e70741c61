-- The chains of disks that are listed in cells of one bucket.
use Rattle.std.specs.Prelude.{◌≡◌, ◌↔◌, ℕ, ◌+◌, ◌*◌, ◌%◌, ◌^◌, ◌<◌, max, min, Bool, IsTrue, List, [], ◌∷◌, length, slice_index_or, slice_set, Option, Some, None, IsSome, IsSomeAnd}
use Rattle.std.specs.Ordering.{nat_cmp}
use Rattle.std.specs.FinMap as map
use Rattle.cell_grid.specs.Grid.{GridData, IsCell}
use Rattle.cell_lists.specs.declared.pointer.Pointer.{Pointer}
use Rattle.cell_lists.specs.Pointer.{disk_of, SaysMore, pointer_at}
use Rattle.cell_lists.specs.Firsts.{IsFirstOf, IsLastOf}

-- what contracts see of chains: how many buckets there are, and for each disk the cell in which it is listed, or none
pub record ChainsData : Type 0 where
  pub buckets : ℕ
  pub cells : List (Option ℕ)

-- the chains with this many buckets and these cells
abbrev pub chains_of : ℕ → List (Option ℕ) → ChainsData
chains_of buckets cells = record { buckets = buckets; cells = cells }

-- how many buckets there are, for this many cells and room for this many disks
abbrev pub bucket_count : ℕ → ℕ → ℕ
bucket_count cells room = max room (min cells (4 * room))

-- with another cell, or none, for a disk
abbrev pub with_cell : ChainsData → ℕ → Option ℕ → ChainsData
with_cell chains disk o = chains_of chains.buckets (slice_set chains.cells disk o)

-- what the list has at an index; none past its end
abbrev pub at : List (Option ℕ) → ℕ → Option ℕ
at xs i = slice_index_or xs i None

-- the disk is listed in the cell
abbrev pub IsCellOf : List (Option ℕ) → ℕ → ℕ → Type 0
IsCellOf cells cell i = at cells i ≡ Some cell

-- the disk is listed in a cell of this bucket, one of this many
abbrev pub InBucket : List (Option ℕ) → ℕ → ℕ → ℕ → Type 0
InBucket cells count bucket i = (cell : ℕ) × (at cells i ≡ Some cell) × (cell % count ≡ bucket)

-- the first disk in a bucket from a number on; none if there is none
abbrev pub IsFirst : List (Option ℕ) → ℕ → ℕ → ℕ → Option ℕ → Type 0
IsFirst cells count bucket from o = IsFirstOf (InBucket cells count bucket) from o

-- the last disk in a bucket below a number; none if there is none
abbrev pub IsLast : List (Option ℕ) → ℕ → ℕ → ℕ → Option ℕ → Type 0
IsLast cells count bucket below o = IsLastOf (InBucket cells count bucket) below o

-- the pointer leads to the first disk of the bucket from a number on, and says whether a greater one is in the bucket
abbrev pub LeadsOn : List (Option ℕ) → ℕ → ℕ → ℕ → Pointer → Type 0
LeadsOn cells count bucket from pointer = IsFirst cells count bucket from (disk_of pointer)
    × (SaysMore pointer ↔ IsSomeAnd (disk_of pointer) (λ i. (j : ℕ) × (i < j) × InBucket cells count bucket j))

-- each head leads to the first disk of its bucket, and each disk's pointer to the first one after it
pub record IsChained (heads nexts : List Pointer) (cells : List (Option ℕ)) : Type 0 where
  pub some : 0 < length heads
  pub few : length cells < 2 ^ 31
  pub len : length nexts ≡ length cells
  pub first : (b : ℕ) → b < length heads → LeadsOn cells (length heads) b 0 (pointer_at heads b)
  pub after : (i b : ℕ) → InBucket cells (length heads) b i → LeadsOn cells (length heads) b (i + 1) (pointer_at nexts i)

-- the pointer at the head of the bucket, or of the disk before
abbrev pub pointer_from : List Pointer → List Pointer → ℕ → Option ℕ → Pointer
pointer_from heads nexts b None = pointer_at heads b
pointer_from heads nexts b (Some p) = pointer_at nexts p

-- this pointer is there now, and all others are as they were
abbrev pub IsPointed : List Pointer → List Pointer → ℕ → Option ℕ → Pointer → List Pointer → List Pointer → Type 0
IsPointed heads nexts b None pointer heads' nexts' = (heads' ≡ slice_set heads b pointer) × (nexts' ≡ nexts)
IsPointed heads nexts b (Some p) pointer heads' nexts' = (heads' ≡ heads) × (nexts' ≡ slice_set nexts p pointer)

-- the pointer leads to the disk, and says that it has a next one if and only if it has
abbrev pub LeadsTo : Pointer → ℕ → Type 0 → Type 0
LeadsTo pointer d HasNext = (disk_of pointer ≡ Some d) × (SaysMore pointer ↔ HasNext)

-- the pointer to the last disk before one, from the second last or the head, says now whether that has a next one
abbrev pub IsMarkedAnew : List Pointer → List Pointer → ℕ → Option ℕ → Option ℕ → Bool → List Pointer → List Pointer → Type 0
IsMarkedAnew heads nexts b None second has_next heads' nexts' = (heads' ≡ heads) × (nexts' ≡ nexts)
IsMarkedAnew heads nexts b (Some p) second has_next heads' nexts' =
    (pointer : Pointer) × LeadsTo pointer p (IsTrue has_next) × IsPointed heads nexts b second pointer heads' nexts'

-- the disk is set behind the one before it in its bucket's chain, or at the chain's head
abbrev pub IsLinked : List Pointer → List Pointer → ℕ → ℕ → Option ℕ → List Pointer → List Pointer → Type 0
IsLinked heads nexts b d before heads' nexts' =
    let next = pointer_from heads nexts b before in
    (pointer : Pointer) × LeadsTo pointer d (IsSome (disk_of next)) × IsPointed heads (slice_set nexts d next) b before pointer heads' nexts'

-- the disk is taken out
abbrev pub IsUnlinked : List Pointer → List Pointer → ℕ → ℕ → Option ℕ → List Pointer → List Pointer → Type 0
IsUnlinked heads nexts b d before heads' nexts' = IsPointed heads nexts b before (pointer_at nexts d) heads' nexts'

-- the same disks are listed, and there is room for this many
abbrev pub HasRoomFor : List (Option ℕ) → ℕ → List (Option ℕ) → Type 0
HasRoomFor old room new = (length new ≡ room) × ((i : ℕ) → at new i ≡ at old i)

-- ---- chains as a map
-- the entries of an array of cells by disk, whose first one belongs to disk n
abbrev pub numbered_cells : ℕ → List (Option ℕ) → List (ℕ × ℕ)
numbered_cells n [] = []
numbered_cells n (None ∷ xs) = numbered_cells (n + 1) xs
numbered_cells n (Some cell ∷ xs) = (n, cell) ∷ numbered_cells (n + 1) xs

-- the map from each listed disk to its cell
abbrev pub cells_in : List (Option ℕ) → map.FinMap nat_cmp ℕ
cells_in xs = map.from_entries (numbered_cells 0 xs)

-- each cell in which a disk is listed is one of the grid
abbrev pub AreCells : GridData → List (Option ℕ) → Type 0
AreCells grid xs = (disk cell : ℕ) → IsCellOf xs cell disk → IsCell grid cell
