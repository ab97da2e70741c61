-- The part of a block of cells outside a second block, and the cells adjacent to one that aren't adjacent to another.
use Rattle.std.specs.Prelude.{◌≡◌, ◌⊎◌, ℕ, ◌+◌, ◌<◌, ◌≤◌}
use Rattle.cell_grid.specs.Grid.{GridData, column_of, row_of, IsAdjacent}
use Rattle.cell_lists.specs.declared.near.Block.{Block}
use Rattle.cell_lists.specs.Listing.{ListsData, IsListed}
use Rattle.cell_lists.specs.Nearby.{IsWithinBlock, IsListedWithin, IsInLine}
use Rattle.region_queue.specs.declared.parts.Line.{Line}
use Rattle.region_queue.specs.declared.parts.Parts.{Parts}

-- the cell of this column and row is in the block
abbrev pub IsInBlock : Block → ℕ → ℕ → Type 0
IsInBlock block column row = ((block.left ≤ column) × (column < block.right)) × ((block.low ≤ row) × (row < block.high))

-- a part of the block that has no cell of the second one
pub record IsPart (block known part : Block) : Type 0 where
  pub columns : part.left ≤ part.right
  pub rows : part.low ≤ part.high
  pub left : block.left ≤ part.left
  pub right : part.right ≤ block.right
  pub low : block.low ≤ part.low
  pub high : part.high ≤ block.high
  pub outside : (column row : ℕ) → IsInBlock part column row → ¬ IsInBlock known column row

-- such parts, which have all cells of the block that are outside the second one
pub record AreParts (block known : Block) (parts : Parts) : Type 0 where
  pub left : IsPart block known parts.left
  pub right : IsPart block known parts.right
  pub low : IsPart block known parts.low
  pub high : IsPart block known parts.high
  pub whole : (column row : ℕ) → IsInBlock block column row → ¬ IsInBlock known column row →
      ((IsInBlock parts.left column row ⊎ IsInBlock parts.right column row) ⊎ IsInBlock parts.low column row) ⊎ IsInBlock parts.high column row

-- the cell isn't at a side of the grid
pub record IsInside (grid : GridData) (cell : ℕ) : Type 0 where
  pub left : 0 < column_of grid cell
  pub right : column_of grid cell + 1 < grid.columns
  pub low : 0 < row_of grid cell
  pub high : row_of grid cell + 1 < grid.rows

-- the step is that of a column if the cells are side by side, and that of a row if one is above the other
abbrev pub IsStepBeyond : ℕ → ℕ → ℕ → Type 0
IsStepBeyond apart columns step = ((apart ≡ 1) × (step ≡ columns)) ⊎ ((apart ≡ columns) × (step ≡ 1))

-- the cells adjacent to one cell that aren't adjacent to another one are in the line
abbrev pub HasAllBeyond : GridData → ℕ → ℕ → Line → Type 0
HasAllBeyond grid cell old line = (at : ℕ) → IsAdjacent grid cell at → ¬ IsAdjacent grid old at → IsInLine line.first line.step at

-- the disk is listed in a cell of the block that isn't in the second one
abbrev pub IsListedOutside : ListsData → Block → Block → ℕ → Type 0
IsListedOutside lists block known disk = (cell : ℕ) × IsListed lists cell disk × IsWithinBlock lists.grid block cell
    × ¬ IsWithinBlock lists.grid known cell

-- the disk is listed in a cell of one of the parts
abbrev pub IsListedInParts : ListsData → Parts → ℕ → Type 0
IsListedInParts lists parts disk = ((IsListedWithin lists parts.left disk ⊎ IsListedWithin lists parts.right disk)
    ⊎ IsListedWithin lists parts.low disk) ⊎ IsListedWithin lists parts.high disk
