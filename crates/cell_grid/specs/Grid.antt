-- The cells of the box, in columns and rows, and the strips of columns that the regions own.
use Rattle.std.specs.Prelude.{◌≡◌, ℕ, ◌+◌, ◌-◌, ◌*◌, ◌/◌, ◌%◌, ◌^◌, ◌<◌, ◌≤◌, max, min, ℤ, nat_abs}
use Rattle.plane_vectors.specs.declared.Vector.{Vector}
use Rattle.fixed_motion.specs.declared.rules.Rules.{Rules}
use Rattle.cell_grid.specs.declared.grid.Strip.{Strip}
use Rattle.cell_grid.specs.declared.grid.TheConstants.{MAX_CELLS_ALONG, MAX_REGIONS}

-- what contracts see of a grid; the sides are those of one cell
pub record GridData : Type 0 where
  pub columns : ℕ
  pub rows : ℕ
  pub side_x : ℕ
  pub side_y : ℕ
  pub regions : ℕ

-- what each grid keeps
pub record HasSizes (grid : GridData) : Type 0 where
  pub columns : 1 ≤ grid.columns
  pub most_columns : grid.columns ≤ MAX_CELLS_ALONG
  pub rows : 1 ≤ grid.rows
  pub most_rows : grid.rows ≤ MAX_CELLS_ALONG
  pub side_x : 1 ≤ grid.side_x
  pub side_y : 1 ≤ grid.side_y
  pub regions : 1 ≤ grid.regions
  pub most_regions : grid.regions ≤ MAX_REGIONS
  pub fits : grid.regions ≤ grid.columns

-- one more than a scale by a divisor: a product with it, by the scale, is the quotient by the divisor
abbrev pub reciprocal_of : ℕ → ℕ → ℕ
reciprocal_of scale divisor = scale / divisor + 1

-- what the code keeps: sizes, with no side of a cell above 2^30, and the reciprocals of the columns and of the sides
pub record HasReciprocals (grid : GridData) (columns_reciprocal reciprocal_x reciprocal_y : ℕ) : Type 0 where
  pub sizes : HasSizes grid
  pub most_x : grid.side_x ≤ 2 ^ 30
  pub most_y : grid.side_y ≤ 2 ^ 30
  pub columns : columns_reciprocal ≡ reciprocal_of (2 ^ 32) grid.columns
  pub x : reciprocal_x ≡ reciprocal_of (2 ^ 62) grid.side_x
  pub y : reciprocal_y ≡ reciprocal_of (2 ^ 62) grid.side_y

-- the least side of a cell: disks that are further apart on an axis don't meet within a tick
abbrev pub least_side : Rules → ℕ
least_side rules = nat_abs rules.diameter + 2 * nat_abs rules.speed_limit

-- how many cells of at least the least side fit along a side of the box, but at least 1
abbrev pub cells_along : ℕ → ℕ → ℕ
cells_along length least = max 1 (min MAX_CELLS_ALONG (length / least))

-- how many columns of cells the box has
abbrev pub columns_of : Rules → ℕ
columns_of rules = cells_along (nat_abs rules.width) (least_side rules)

-- how many rows of cells the box has
abbrev pub rows_of : Rules → ℕ
rows_of rules = cells_along (nat_abs rules.height) (least_side rules)

-- the grid of some rules, if this many regions are asked for
abbrev pub grid_of : Rules → ℕ → GridData
grid_of rules asked = record {
  columns = columns_of rules;
  rows = rows_of rules;
  side_x = nat_abs rules.width / columns_of rules;
  side_y = nat_abs rules.height / rows_of rules;
  regions = min asked (columns_of rules);
}

-- a number of regions that may be asked for
abbrev pub IsAsked : ℕ → Type 0
IsAsked asked = (1 ≤ asked) × (asked ≤ MAX_REGIONS)

-- the grid is that of the rules, for some number of regions that may be asked for
abbrev pub IsGridOf : Rules → GridData → Type 0
IsGridOf rules grid = (asked : ℕ) × IsAsked asked × (grid ≡ grid_of rules asked)

-- ---- cells
-- how many whole sides a coordinate is from the left, or from the bottom; all that is left over belongs to the last
abbrev pub along : ℕ → ℕ → ℤ → ℕ
along side count n = min (nat_abs n / side) (count - 1)

-- the number of the cell in a column and a row
abbrev pub cell_number : GridData → ℕ → ℕ → ℕ
cell_number grid column row = row * grid.columns + column

-- the cell of a place in the box
abbrev pub cell_at : GridData → Vector → ℕ
cell_at grid place = cell_number grid (along grid.side_x grid.columns place.x) (along grid.side_y grid.rows place.y)

-- the grid has a cell of this number
abbrev pub IsCell : GridData → ℕ → Type 0
IsCell grid cell = cell < grid.rows * grid.columns

-- the column of a cell
abbrev pub column_of : GridData → ℕ → ℕ
column_of grid cell = cell % grid.columns

-- the row of a cell
abbrev pub row_of : GridData → ℕ → ℕ
row_of grid cell = cell / grid.columns

-- two numbers differ by at most one
abbrev pub IsBeside : ℕ → ℕ → Type 0
IsBeside m n = (m ≤ n + 1) × (n ≤ m + 1)

-- columns and rows differ by at most one; a cell is adjacent to itself
abbrev pub IsAdjacent : GridData → ℕ → ℕ → Type 0
IsAdjacent grid a b = IsBeside (column_of grid a) (column_of grid b) × IsBeside (row_of grid a) (row_of grid b)

-- ---- strips
-- the grid has a region of this number
abbrev pub IsRegion : GridData → ℕ → Type 0
IsRegion grid region = region < grid.regions

-- the first column of a region; for the number one past the last region, one past the last column
abbrev pub strip_start : GridData → ℕ → ℕ
strip_start grid region = region * grid.columns / grid.regions

-- the strip has the region's own columns
pub record IsStripOf (grid : GridData) (region : ℕ) (strip : Strip) : Type 0 where
  pub first : strip.first ≡ strip_start grid region
  pub end : strip.end ≡ strip_start grid (region + 1)

-- the cell is in one of the region's own columns
abbrev pub Owns : GridData → ℕ → ℕ → Type 0
Owns grid region cell =
    (strip_start grid region ≤ column_of grid cell) × (column_of grid cell < strip_start grid (region + 1))

-- the cell is in an own column of the region, or in one beside these
abbrev pub Reaches : GridData → ℕ → ℕ → Type 0
Reaches grid region cell =
    (strip_start grid region ≤ column_of grid cell + 1) × (column_of grid cell ≤ strip_start grid (region + 1))

-- two different regions reach the same cell
abbrev pub AreLinked : GridData → ℕ → ℕ → Type 0
AreLinked grid j k = ¬ (j ≡ k) × ((cell : ℕ) × IsCell grid cell × Reaches grid j cell × Reaches grid k cell)
