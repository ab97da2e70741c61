-- What is found and kept for one disk.
use Rattle.std.specs.Prelude.{◌≡◌, ◌≢◌, ◌⊎◌, ◌↔◌, ℕ, ◌<◌, ℤ, ◌*ℤ◌, Bool, IsTrue, List, Option, Some, IfSome, option_map}
use Rattle.std.specs.Ordering.{nat_cmp}
use Rattle.std.specs.FinMap as map
use Rattle.std.specs.List.{Contains}
use Rattle.fixed_motion.specs.declared.rules.Rules.{Rules}
use Rattle.fixed_motion.specs.declared.disk.Disk.{Disk}
use Rattle.fixed_motion.specs.Rules.{IsChecked}
use Rattle.event_stamps.specs.declared.Stamp.{Stamp}
use Rattle.event_stamps.specs.declared.Kind.TheVariants.{Pair}
use Rattle.event_stamps.specs.Least.{IsLeastOf}
use Rattle.event_tree.specs.Entries.{EntriesData, entry_at}
use Rattle.event_tree.specs.Keys.{Key, IsNotAfter, key_at}
use Rattle.region_queue.specs.Covering.{IsLowered, Covers, IsSettled}
use Rattle.event_rules.specs.Events.{NeverHit}
use Rattle.event_rules.specs.Pairs.{IsValidPair, reach_of}
use Rattle.cell_grid.specs.Grid.{GridData, IsGridOf, IsRegion, IsCell, IsAdjacent, IsStripOf, Owns}
use Rattle.cell_lists.specs.declared.near.Block.{Block}
use Rattle.cell_lists.specs.Listing.{ListsData, IsListed, IsUnlisted}
use Rattle.cell_lists.specs.Nearby.{IsBlock, IsWithinBlock, IsListedWithin}
use Rattle.region_view.specs.declared.action.Placed.{Placed}
use Rattle.region_view.specs.Events.{IsAlone, IsNear}
use Rattle.region_view.specs.Placing.{IsNative, IsValidPlacing}
use Rattle.region_view.specs.Views.{ViewData, rows_in}
use Rattle.region_queue.specs.declared.finder.Codes.{Codes}
use Rattle.region_queue.specs.declared.finder.Finder.{Finder}
use Rattle.region_view.specs.Naming.{Names, IsPairOf}

-- ---- where disks are listed
-- the cell of each listed disk, by its number
abbrev pub Cells : Type 0
Cells = map.FinMap nat_cmp ℕ

-- the cell in which a view has a disk
abbrev pub cell_in : ViewData → ℕ → Option ℕ
cell_in view disk = option_map (λ p. p.cell) (rows_in view disk)

-- each disk is listed in the cell in which the view has it
abbrev pub AreListed : ViewData → Cells → Type 0
AreListed view cells = (disk : ℕ) → map.get cells disk ≡ cell_in view disk

-- each disk is in the same cell before and after
abbrev pub KeepCells : ViewData → ViewData → Type 0
KeepCells before after = (disk : ℕ) → cell_in after disk ≡ cell_in before disk

-- one disk is listed nowhere, and the others are where they were
pub record IsTakenOff (disk : ℕ) (old new : ListsData) : Type 0 where
  pub grid : new.grid ≡ old.grid
  pub free : IsUnlisted new disk
  pub others : (other : ℕ) → other ≢ disk → map.get new.cells other ≡ map.get old.cells other

-- one disk is listed in the cell in which the view has it, and the others are as they were
pub record IsRelisted (view : ViewData) (disk : ℕ) (old new : Cells) : Type 0 where
  pub listed : map.get new disk ≡ cell_in view disk
  pub others : (other : ℕ) → other ≢ disk → map.get new other ≡ map.get old other

-- such disks are listed so, and each other one is too, or is as it was
abbrev pub AreRelistedOf : ViewData → (ℕ → Type 0) → Cells → Cells → Type 0
AreRelistedOf view Such old new = (i : ℕ) →
    (map.get new i ≡ cell_in view i) ⊎ ((map.get new i ≡ map.get old i) × ¬ Such i)

-- the same for the disks of a list
abbrev pub AreRelisted : ViewData → List ℕ → Cells → Cells → Type 0
AreRelisted view disks old new = AreRelistedOf view (λ i. Contains disks i) old new

-- ---- the candidates of a disk

-- a region of a grid of checked rules, its columns, lists of this grid, and a valid view
pub record IsReady (finder : Finder) (view : ViewData) : Type 0 where
  pub checked : IsChecked finder.rules
  pub grid : IsGridOf finder.rules finder.grid
  pub region : IsRegion finder.grid finder.region
  pub strip : IsStripOf finder.grid finder.region finder.strip
  pub lists : finder.lists.grid ≡ finder.grid
  pub valid : IsValidPlacing finder.rules finder.grid (rows_in view)

-- such a region and view, which has the disk placed so; and whether the region owns its cell
pub record IsSubject (finder : Finder) (view : ViewData) (disk : ℕ) (p : Placed) (is_own : Bool) : Type 0 where
  pub ready : IsReady finder view
  pub placed : rows_in view disk ≡ Some p
  pub own : IsTrue is_own ↔ Owns finder.grid finder.region p.cell

-- a native candidate of the region in the view
abbrev pub IsFound : Finder → ViewData → Stamp → Type 0
IsFound finder view s = IsNative finder.rules finder.grid finder.region (rows_in view) s

-- the disk's event by itself, if the region owns its cell
abbrev pub IsAloneAt : Finder → ℕ → Placed → Stamp → Type 0
IsAloneAt finder disk p s = IsAlone finder.rules finder.grid disk p s × Owns finder.grid finder.region p.cell

-- the stamp is that of a native event of its disks, which are placed so
abbrev pub IsPairPlaced : Finder → Stamp → Placed → Placed → Type 0
IsPairPlaced finder s p q = (s.first < s.second) × Owns finder.grid finder.region p.cell
    × IsNear finder.rules finder.grid s.first p s.second q s

-- a native event of a lower and a higher disk
abbrev pub IsNativeOf : Finder → ViewData → ℕ → ℕ → Stamp → Type 0
IsNativeOf finder view low high s =
    IsFound finder view s × ((s.kind ≡ Pair) × ((s.first ≡ low) × (s.second ≡ high)))

-- a native event of two disks
abbrev pub IsNativePair : Finder → ViewData → ℕ → ℕ → Stamp → Type 0
IsNativePair finder view i j s = IsNativeOf finder view i j s ⊎ IsNativeOf finder view j i s

-- if the view has the disk, it is in an adjacent cell and, if `whole`, in a column that the region owns
abbrev pub IsNearby : Finder → ViewData → ℕ → Bool → ℕ → Type 0
IsNearby finder view cell whole other = (q : Placed) → rows_in view other ≡ Some q →
    IsAdjacent finder.grid cell q.cell × (IsTrue whole → Owns finder.grid finder.region q.cell)

-- a block of the grid, all of whose cells are adjacent to a cell
pub record IsBlockBeside (grid : GridData) (cell : ℕ) (block : Block) : Type 0 where
  pub sides : IsBlock grid block
  pub adjacent : (other : ℕ) → IsCell grid other → IsWithinBlock grid block other → IsAdjacent grid cell other

-- each of some disks is listed in the block
abbrev pub AreAllWithin : ListsData → Block → List ℕ → Type 0
AreAllWithin lists block disks = (i : ℕ) → Contains disks i → IsListedWithin lists block i

-- each disk that the view has in a cell adjacent to this one is among these
abbrev pub HasNearby : Finder → ViewData → ℕ → List ℕ → Type 0
HasNearby finder view cell disks = (i : ℕ) (q : Placed) → rows_in view i ≡ Some q → IsAdjacent finder.grid cell q.cell → Contains disks i

-- each cell of a block is in the other one
abbrev pub IsWider : Block → Block → Type 0
IsWider block wider = (grid : GridData) (cell : ℕ) → IsWithinBlock grid block cell → IsWithinBlock grid wider cell

-- the disk is listed in a cell of the grid that is adjacent to one cell, and not to another one
abbrev pub IsListedBeyond : Finder → ℕ → ℕ → ℕ → Type 0
IsListedBeyond finder cell old disk = (at : ℕ) × IsListed finder.lists at disk × IsCell finder.grid at
    × IsAdjacent finder.grid cell at × ¬ IsAdjacent finder.grid old at

-- two disks never hit each other
abbrev pub NeverMeet : Rules → Disk → Disk → Type 0
NeverMeet rules disk other = NeverHit rules disk other × NeverHit rules other disk

-- under all rules of a kind by which both are valid, a disk never hits the one that may stand at a number
abbrev pub IsMissed : (Rules → Type 0) → Disk → Option Placed → Type 0
IsMissed Such disk row = IfSome row (λ q. (rules : Rules) → Such rules → IsValidPair rules disk q.disk → NeverMeet rules disk q.disk)

-- the number is the square of the disk's reach
abbrev pub IsReachSquare : ℤ → Disk → Rules → Type 0
IsReachSquare square disk rules = square ≡ reach_of rules disk *ℤ reach_of rules disk

-- some disks are left, and for each one left out this holds
pub record AreKept (IsOut : ℕ → Type 0) (old new : List ℕ) : Type 0 where
  pub within : (i : ℕ) → Contains new i → Contains old i
  pub out : (i : ℕ) → Contains old i → Contains new i ⊎ IsOut i

-- a native event of a disk with one of some others
abbrev pub IsNativeWith : Finder → ViewData → ℕ → (ℕ → Type 0) → Stamp → Type 0
IsNativeWith finder view disk With s = (other : ℕ) × With other × IsNativePair finder view disk other s

-- if the disks are listed as the view has them, the least such event
abbrev pub IsBestWith : Finder → ViewData → ℕ → (ℕ → Type 0) → Key → Type 0
IsBestWith finder view disk With key = AreListed view finder.lists.cells → IsLeastOf (IsNativeWith finder view disk With) key

-- the least native candidate that names the disk; none if there is none
abbrev pub IsBest : Finder → ViewData → ℕ → Key → Type 0
IsBest finder view disk key = IsLeastOf (λ s. IsFound finder view s × Names s disk) key

-- a native candidate of the disk by itself
abbrev pub IsSingle : Finder → ViewData → ℕ → Stamp → Type 0
IsSingle finder view disk s = IsFound finder view s × (s.first ≡ disk) × ¬ (s.kind ≡ Pair)

-- a native pair that names the disk
abbrev pub IsPaired : Finder → ViewData → ℕ → Stamp → Type 0
IsPaired finder view disk s = IsFound finder view s × (s.kind ≡ Pair) × Names s disk

-- the view has the disk in a cell that isn't adjacent to this one
abbrev pub IsBeyond : Finder → ViewData → ℕ → ℕ → Type 0
IsBeyond finder view cell disk = (at : ℕ) × (cell_in view disk ≡ Some at) × ¬ IsAdjacent finder.grid cell at

-- a native pair of the disk with one beyond the cells adjacent to this one
abbrev pub IsPairedBeyond : Finder → ViewData → ℕ → ℕ → Stamp → Type 0
IsPairedBeyond finder view disk cell s = IsFound finder view s × (s.kind ≡ Pair)
    × ((other : ℕ) × IsBeyond finder view cell other × IsPairOf s disk other)

-- the least native candidate of the disk by itself; none if there is none
abbrev pub IsBestSingle : Finder → ViewData → ℕ → Key → Type 0
IsBestSingle finder view disk key = IsLeastOf (IsSingle finder view disk) key

-- the least native pair that names the disk; none if there is none
abbrev pub IsBestPair : Finder → ViewData → ℕ → Key → Type 0
IsBestPair finder view disk key = IsLeastOf (IsPaired finder view disk) key

-- a key that is after none of these stamps; if there is one, it is that of a pair, and names the disk
pub record IsLowKey (P : Stamp → Type 0) (disk : ℕ) (key : Key) : Type 0 where
  pub low : (s : Stamp) → P s → IsNotAfter key (Some s)
  pub pair : (s : Stamp) → key ≡ Some s → (s.kind ≡ Pair) × Names s disk

-- such a key for the native pairs that name the disk
abbrev pub IsLowPair : Finder → ViewData → ℕ → Key → Type 0
IsLowPair finder view disk key = IsLowKey (IsPaired finder view disk) disk key

-- and for those with one beyond those cells
abbrev pub IsLowBeyond : Finder → ViewData → ℕ → ℕ → Key → Type 0
IsLowBeyond finder view disk cell key = IsLowKey (IsPairedBeyond finder view disk cell) disk key

-- the least candidate of the disk by itself, and, if the disks are listed as the view has them, such a key for its pairs
abbrev pub IsLowOf : Finder → ViewData → ℕ → Codes → Type 0
IsLowOf finder view disk codes = IsBestSingle finder view disk codes.single
    × (AreListed view finder.lists.cells → IsLowPair finder view disk codes.pair)

-- ---- what is kept of the disks
-- the least native candidate that names the disk, and the least pair
abbrev pub IsTaken : Finder → ViewData → ℕ → Key × Key → Type 0
IsTaken finder view disk entry = IsBest finder view disk entry.0 × IsBestPair finder view disk entry.1

-- that is the entry of one disk, and the others have theirs
pub record IsTakenAt (finder : Finder) (view : ViewData) (disk : ℕ) (old new : EntriesData) : Type 0 where
  pub taken : IsTaken finder view disk (entry_at new disk)
  pub others : (other : ℕ) → other ≢ disk → entry_at new other ≡ entry_at old other

-- so are the entries of such disks; the other disks' entries are so too, or are as they were
abbrev pub AreRetakenOf : Finder → ViewData → (ℕ → Type 0) → EntriesData → EntriesData → Type 0
AreRetakenOf finder view Such old new = (i : ℕ) →
    IsTaken finder view i (entry_at new i) ⊎ ((entry_at new i ≡ entry_at old i) × ¬ Such i)

-- the entry of one disk isn't after what it covers, and the others have theirs
pub record IsLoweredAt (finder : Finder) (view : ViewData) (disk : ℕ) (old new : EntriesData) : Type 0 where
  pub lowered : IsLowered (IsFound finder view) disk (entry_at new disk)
  pub others : (other : ℕ) → other ≢ disk → entry_at new other ≡ entry_at old other

-- so are the entries of the disks of a list; the other disks' entries are so too, or are as they were
abbrev pub AreRetaken : Finder → ViewData → List ℕ → EntriesData → EntriesData → Type 0
AreRetaken finder view disks old new = (i : ℕ) →
    IsLowered (IsFound finder view) i (entry_at new i) ⊎ ((entry_at new i ≡ entry_at old i) × ¬ Contains disks i)

-- if the disks are listed as the view has them, keys that covered its candidates still do, and the least is one of these
abbrev pub Settles : Finder → ViewData → EntriesData → EntriesData → Type 0
Settles finder view old new = AreListed view finder.lists.cells → Covers (IsFound finder view) old.keys old.bounds →
    Covers (IsFound finder view) new.keys new.bounds × IsSettled (IsFound finder view) new.keys

-- the keys and bounds of an event's disks are its stamp, and the others are as they were
pub record AreGiven (s : Stamp) (old new : EntriesData) : Type 0 where
  pub given : (i : ℕ) → Names s i → entry_at new i ≡ (Some s, Some s)
  pub others : (i : ℕ) → ¬ Names s i → entry_at new i ≡ entry_at old i

-- it is this disk, and its key is this one
abbrev pub HasKey : EntriesData → ℕ → Stamp → ℕ → Type 0
HasKey entries disk s i = (i ≡ disk) × (key_at entries.keys i ≡ Some s)

-- the disk has this key, which names it
abbrev pub IsHolder : EntriesData → Stamp → ℕ → Type 0
IsHolder entries s i = Names s i × (key_at entries.keys i ≡ Some s)
