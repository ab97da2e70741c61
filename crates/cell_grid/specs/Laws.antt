-- What holds of all grids.
use Rattle.std.specs.Prelude.{◌≡◌, ◌↔◌, ◌⊎◌, ℕ, ◌+◌, ◌<◌, ◌≤◌, nat_abs}
use Rattle.plane_vectors.specs.declared.Vector.{Vector}
use Rattle.plane_vectors.specs.Vectors.{difference}
use Rattle.fixed_motion.specs.declared.rules.Rules.{Rules}
use Rattle.fixed_motion.specs.declared.disk.Disk.{Disk}
use Rattle.fixed_motion.specs.Rules.{IsChecked}
use Rattle.fixed_motion.specs.Motion.{IsInside, IsInBox, IsValidDisk, place_of, velocity_of, contact_distance}
use Rattle.contact_predictor.specs.Contact.{IsContact}
use Rattle.event_stamps.specs.declared.Stamp.{Stamp}
use Rattle.cell_grid.specs.Grid.{GridData, HasSizes, IsGridOf, IsCell, IsRegion, least_side, cell_at, IsAdjacent, Owns, Reaches, AreLinked}
use Rattle.cell_grid.specs.Crossing.{IsInCell, IsCrossTick, IsCrossEvent}

-- the sizes of each grid of checked rules are within their bounds
abbrev pub GridsHaveSizes : Type 0
GridsHaveSizes = (rules : Rules) (grid : GridData) → IsChecked rules → IsGridOf rules grid → HasSizes grid

-- ---- regions
-- each cell has one owner
abbrev pub EachCellHasOneOwner : Type 0
EachCellHasOneOwner = (grid : GridData) (cell : ℕ) → HasSizes grid → IsCell grid cell →
    (k : ℕ) × IsRegion grid k × Owns grid k cell × ((j : ℕ) → IsRegion grid j → Owns grid j cell → j ≡ k)

-- a region reaches a cell if and only if it owns the cell or one beside it
abbrev pub ReachIsBesideOwn : Type 0
ReachIsBesideOwn = (grid : GridData) (k cell : ℕ) → HasSizes grid → IsRegion grid k → IsCell grid cell →
    (Reaches grid k cell ↔ ((own : ℕ) × IsCell grid own × Owns grid k own × IsAdjacent grid own cell))

-- a region reaches the cells adjacent to its own
abbrev pub NeighboursAreInReach : Type 0
NeighboursAreInReach = (grid : GridData) (k own cell : ℕ) → Owns grid k own → IsAdjacent grid own cell →
    Reaches grid k cell

-- a region reaches its own cells
abbrev pub OwnIsInReach : Type 0
OwnIsInReach = (grid : GridData) (k cell : ℕ) → Owns grid k cell → Reaches grid k cell

-- two regions are linked to each other, or neither is to the other
abbrev pub LinksAreMutual : Type 0
LinksAreMutual = (grid : GridData) (j k : ℕ) → (AreLinked grid j k ↔ AreLinked grid k j)

-- ---- cells
-- a place in the box is in a cell
abbrev pub PlacesHaveCells : Type 0
PlacesHaveCells = (grid : GridData) (p : Vector) → HasSizes grid → IsCell grid (cell_at grid p)

-- in one tick a disk moves by at most one cell on each axis
abbrev pub MovesToAdjacent : Type 0
MovesToAdjacent = (rules : Rules) (grid : GridData) (a : Disk) (tick : ℕ) → IsChecked rules → IsGridOf rules grid →
    IsValidDisk rules a → a.base ≤ tick → IsInside rules a (place_of a tick) →
    IsInside rules a (place_of a (tick + 1)) →
    IsAdjacent grid (cell_at grid (place_of a tick)) (cell_at grid (place_of a (tick + 1)))

-- on one axis two places are further apart than the least side of a cell
abbrev pub AreFarOnAnAxis : Rules → Vector → Vector → Type 0
AreFarOnAnAxis rules p q =
    (least_side rules < nat_abs (difference p q).x) ⊎ (least_side rules < nat_abs (difference p q).y)

-- so are those in cells that aren't adjacent
abbrev pub FarUnlessAdjacent : Type 0
FarUnlessAdjacent = (rules : Rules) (grid : GridData) (p q : Vector) → IsChecked rules → IsGridOf rules grid →
    IsInBox p → IsInBox q → ¬ IsAdjacent grid (cell_at grid p) (cell_at grid q) → AreFarOnAnAxis rules p q

-- two disks that are at their last whole tick before they overlap are in adjacent cells
abbrev pub TouchInAdjacent : Type 0
TouchInAdjacent = (rules : Rules) (grid : GridData) (a b : Disk) (p q : Vector) → IsChecked rules → IsGridOf rules grid →
    IsValidDisk rules a → IsValidDisk rules b → IsInside rules a p → IsInside rules b q →
    IsContact (difference p q) (difference (velocity_of a) (velocity_of b)) (contact_distance a b) →
    IsAdjacent grid (cell_at grid p) (cell_at grid q)

-- ---- crossings
-- a disk that was in a cell at a tick and isn't at the next has left it then, and not before
abbrev pub LeavesAfterLast : Type 0
LeavesAfterLast = (rules : Rules) (grid : GridData) (a : Disk) (cell tick : ℕ) → IsChecked rules → IsGridOf rules grid →
    IsValidDisk rules a → a.base ≤ tick → IsInCell rules grid a cell (place_of a tick) →
    ¬ IsInCell rules grid a cell (place_of a (tick + 1)) → IsInside rules a (place_of a (tick + 1)) →
    IsCrossTick rules grid a cell (tick + 1)

-- a disk that is in its cell at a tick crosses later
abbrev pub CrossesLater : Type 0
CrossesLater = (rules : Rules) (grid : GridData) (a : Disk) (cell tick t : ℕ) →
    IsInCell rules grid a cell (place_of a tick) →
    IsCrossTick rules grid a cell t → tick < t

-- a disk has at most one crossing
abbrev pub OneCrossing : Type 0
OneCrossing = (rules : Rules) (grid : GridData) (disk : ℕ) (a : Disk) (cell : ℕ) (s t : Stamp) →
    IsCrossEvent rules grid disk a cell s → IsCrossEvent rules grid disk a cell t → t ≡ s
