-- Blocks of cells, and the disks that are listed in them.
use Rattle.std.specs.Prelude.{◌≡◌, ◌⊎◌, ◌↔◌, ℕ, ◌+◌, ◌*◌, ◌<◌, ◌≤◌, List}
use Rattle.std.specs.List.{Contains}
use Rattle.cell_grid.specs.Grid.{GridData, column_of, row_of, IsAdjacent}
use Rattle.cell_lists.specs.declared.near.Block.{Block}
use Rattle.cell_lists.specs.Listing.{ListsData, IsListed}

-- columns and rows of the block are in order, and in the grid
pub record IsBlock (grid : GridData) (block : Block) : Type 0 where
  pub columns : block.left ≤ block.right
  pub most_columns : block.right ≤ grid.columns
  pub rows : block.low ≤ block.high
  pub most_rows : block.high ≤ grid.rows

-- the cell is in the block, by its column and its row
abbrev pub IsWithinBlock : GridData → Block → ℕ → Type 0
IsWithinBlock grid block cell =
    ((block.left ≤ column_of grid cell) × (column_of grid cell < block.right)) × ((block.low ≤ row_of grid cell) × (row_of grid cell < block.high))

-- the disk is listed in a cell of the block
abbrev pub IsListedWithin : ListsData → Block → ℕ → Type 0
IsListedWithin lists block disk = (cell : ℕ) × IsListed lists cell disk × IsWithinBlock lists.grid block cell

-- the disk is listed in a cell adjacent to this one, or in this one
abbrev pub IsListedNear : ListsData → ℕ → ℕ → Type 0
IsListedNear lists cell disk = (other : ℕ) × IsListed lists other disk × IsAdjacent lists.grid cell other

-- the cells of a block in one row, in the columns before one
abbrev pub columns_to : Block → ℕ → ℕ → Block
columns_to block row column = record { left = block.left; right = column; low = row; high = row + 1 }

-- the new disks are the old ones and those that are listed in the block
abbrev pub AreGathered : ListsData → Block → List ℕ → List ℕ → Type 0
AreGathered lists block old new = (disk : ℕ) → Contains new disk ↔ (Contains old disk ⊎ IsListedWithin lists block disk)

-- the cell is the first of three in a line, or one step or two steps from it
abbrev pub IsInLine : ℕ → ℕ → ℕ → Type 0
IsInLine first step cell = (cell ≡ first) ⊎ ((cell ≡ first + step) ⊎ (cell ≡ first + 2 * step))

-- the new disks are the old ones and those that are listed in these three cells
abbrev pub AreGatheredInLine : ListsData → ℕ → ℕ → List ℕ → List ℕ → Type 0
AreGatheredInLine lists first step old new = (disk : ℕ) →
    Contains new disk ↔ (Contains old disk ⊎ ((cell : ℕ) × IsListed lists cell disk × IsInLine first step cell))
