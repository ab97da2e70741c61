-- Which disks are listed in which cells.
use Rattle.std.specs.Prelude.{◌≡◌, ℕ, Option, Some, None, refl}
use Rattle.std.specs.Coded.{Coded, code_by, coded×, coded_ℕ}
use Rattle.std.specs.Ordering.{nat_cmp}
use Rattle.std.specs.FinMap as map
use Rattle.cell_grid.specs.contracts.grid.Grid as grid_type
use Rattle.cell_grid.specs.Grid.{GridData, IsCell}
use Rattle.cell_lists.specs.Firsts.{IsFirstOf}

-- what contracts see of lists: their grid, and the cell of each listed disk
pub record ListsData : Type 0 where
  pub grid : GridData
  pub cells : map.FinMap nat_cmp ℕ

-- the lists on this grid, with these cells of disks
abbrev pub lists_of : GridData → map.FinMap nat_cmp ℕ → ListsData
lists_of grid cells = record { grid = grid; cells = cells }

-- lists are stored as the pair of both
abbrev pub lists_code : Coded ListsData
lists_code =
    code_by (GridData × map.FinMap nat_cmp ℕ) (coded× grid_type.the_row.coded (map.code coded_ℕ coded_ℕ)) (λ d. (d.grid, d.cells))
    (λ p. lists_of p.0 p.1) (λ _. refl)

-- the disk is listed in the cell
abbrev pub IsListed : ListsData → ℕ → ℕ → Type 0
IsListed lists cell disk = map.get lists.cells disk ≡ Some cell

-- each listed disk is in a cell of the grid
abbrev pub AreInGrid : ListsData → Type 0
AreInGrid lists = (disk cell : ℕ) → IsListed lists cell disk → IsCell lists.grid cell

-- the disk isn't listed
abbrev pub IsUnlisted : ListsData → ℕ → Type 0
IsUnlisted lists disk = map.get lists.cells disk ≡ None

-- the lists with the disk in this cell, and in no other
abbrev pub with_disk : ListsData → ℕ → ℕ → ListsData
with_disk lists disk cell = lists_of lists.grid (map.insert lists.cells disk cell)

-- the lists without the disk
abbrev pub without_disk : ListsData → ℕ → ListsData
without_disk lists disk = lists_of lists.grid (map.remove lists.cells disk)

-- the first disk of the cell, from a number on
abbrev pub IsFirstIn : ListsData → ℕ → ℕ → Option ℕ → Type 0
IsFirstIn lists cell from o = IsFirstOf (IsListed lists cell) from o
