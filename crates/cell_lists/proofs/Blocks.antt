-- Blocks of cells, row by row and column by column.
use Rattle.std.proofs.Common.{◌≡◌, ◌⊎◌, ◌↔◌, inl, inr, ℕ, ◌+◌, ◌-◌, ◌*◌, ◌/◌, ◌%◌, ◌<◌, ◌≤◌, arith, sym, subst, ◌∙◌, ap}
use Rattle.std.proofs.lemmas.Nat.{div-mul-add, mod-mul-add, div-add-mod'}
use Rattle.std.proofs.lemmas.Bool.{cases_lt}
use Rattle.cell_grid.specs.Grid.{GridData, column_of, row_of}
use Rattle.cell_lists.specs.declared.near.Block.{Block}
use Rattle.cell_lists.specs.Listing.{ListsData, IsListed}
use Rattle.cell_lists.specs.Nearby.{columns_to, IsWithinBlock, IsListedWithin}

-- the rows of a block below one
abbrev pub rows_to : Block → ℕ → Block
rows_to block row = record { left = block.left; right = block.right; low = block.low; high = row }

next : (n : ℕ) → n < n + 1
next n = omega arith

same : (n : ℕ) → n ≤ n
same n = omega arith

less_or_last : (k n : ℕ) → k < n + 1 → (k < n) ⊎ (k ≡ n)
less_or_last k n lt = grind arith

-- no cell, no row
pub no_column : (lists : ListsData) (block : Block) (row i : ℕ) → ¬ IsListedWithin lists (columns_to block row block.left) i
no_column lists block row i h = let a = h.2.0.0 in let b = h.2.0.1 in absurd (omega arith)

pub no_row : (lists : ListsData) (block : Block) (i : ℕ) → ¬ IsListedWithin lists (rows_to block block.low) i
no_row lists block i h = let a = h.2.1.0 in let b = h.2.1.1 in absurd (omega arith)

-- one more cell of a row
pub split_column : (lists : ListsData) (block : Block) (row column i : ℕ) → IsListedWithin lists (columns_to block row (column + 1)) i →
    IsListedWithin lists (columns_to block row column) i ⊎ IsListed lists (row * lists.grid.columns + column) i
split_column lists block row column i x = split (less_or_last (column_of lists.grid x.0) column x.2.0.1)
  where
    split : (column_of lists.grid x.0 < column) ⊎ (column_of lists.grid x.0 ≡ column) →
        IsListedWithin lists (columns_to block row column) i ⊎ IsListed lists (row * lists.grid.columns + column) i
    split (inl less) = inl (x.0, x.1, ((x.2.0.0, less), x.2.1))
    split (inr last) =
        let low : row ≤ row_of lists.grid x.0 = x.2.1.0 in
        let high : row_of lists.grid x.0 < row + 1 = x.2.1.1 in
        let whole : row_of lists.grid x.0 * lists.grid.columns + column_of lists.grid x.0 ≡ x.0 = div-add-mod' x.0 lists.grid.columns in
        let row_is : row_of lists.grid x.0 ≡ row = omega arith in
        inr (subst (λ (n : ℕ). IsListed lists n i)
        (sym whole ∙ ap (λ n. n * lists.grid.columns + column_of lists.grid x.0) row_is ∙ ap (λ n. row * lists.grid.columns + n) last) x.1)

pub wider_column : (lists : ListsData) (block : Block) (row column i : ℕ) → IsListedWithin lists (columns_to block row column) i →
    IsListedWithin lists (columns_to block row (column + 1)) i
wider_column lists block row column i x =
    let less : column_of lists.grid x.0 < column = x.2.0.1 in (x.0, x.1, ((x.2.0.0, omega arith), x.2.1))

pub in_last_column : (lists : ListsData) (block : Block) (row column i : ℕ) → block.left ≤ column → column < lists.grid.columns →
    IsListed lists (row * lists.grid.columns + column) i → IsListedWithin lists (columns_to block row (column + 1)) i
in_last_column lists block row column i left lt y = (row * lists.grid.columns + column, y, is_in)
  where
    in_column : column_of lists.grid (row * lists.grid.columns + column) ≡ column
    in_column = mod-mul-add row lists.grid.columns column lt

    in_row : row_of lists.grid (row * lists.grid.columns + column) ≡ row
    in_row = div-mul-add row lists.grid.columns column lt

    is_in : IsWithinBlock lists.grid (columns_to block row (column + 1)) (row * lists.grid.columns + column)
    is_in = rw (in_column, in_row) ((left, next column), (same row, next row))

-- one more row
pub split_row : (lists : ListsData) (block : Block) (row i : ℕ) → IsListedWithin lists (rows_to block (row + 1)) i →
    IsListedWithin lists (rows_to block row) i ⊎ IsListedWithin lists (columns_to block row block.right) i
split_row lists block row i x = elim (cases_lt (row_of lists.grid x.0) row) [
  | inl less ↦ inl (x.0, x.1, (x.2.0, (x.2.1.0, less)))
  | inr more ↦ inr (x.0, x.1, (x.2.0, (more, x.2.1.1)))
]

pub join_row : (lists : ListsData) (block : Block) (row i : ℕ) → block.low ≤ row →
    IsListedWithin lists (rows_to block row) i ⊎ IsListedWithin lists (columns_to block row block.right) i → IsListedWithin lists (rows_to block (row + 1)) i
join_row lists block row i low x = elim x [
  | inl y ↦ (let less : row_of lists.grid y.0 < row = y.2.1.1 in (y.0, y.1, (y.2.0, (y.2.1.0, omega arith))))
  | inr y ↦ (let above : row ≤ row_of lists.grid y.0 = y.2.1.0 in (y.0, y.1, (y.2.0, (omega arith, y.2.1.1))))
]

-- the cells of one more row
pub row_cells : (grid : GridData) (block : Block) (row cell : ℕ) → block.low ≤ row → block.left ≤ block.right → block.right ≤ grid.columns →
    (IsWithinBlock grid (rows_to block (row + 1)) cell ↔
    (IsWithinBlock grid (rows_to block row) cell ⊎ ((row * grid.columns + block.left ≤ cell) × (cell < row * grid.columns + block.right))))
row_cells grid block row cell low order most = (λ h. forward h (less_or_last (row_of grid cell) row h.1.1), λ h. backward h)
  where
    whole : row_of grid cell * grid.columns + column_of grid cell ≡ cell
    whole = div-add-mod' cell grid.columns

    forward : IsWithinBlock grid (rows_to block (row + 1)) cell → (row_of grid cell < row) ⊎ (row_of grid cell ≡ row) →
        IsWithinBlock grid (rows_to block row) cell ⊎ ((row * grid.columns + block.left ≤ cell) × (cell < row * grid.columns + block.right))
    forward h (inl less) = inl (h.0, (h.1.0, less))
    forward h (inr last) =
        let is : row * grid.columns + column_of grid cell ≡ cell = ap (λ n. n * grid.columns + column_of grid cell) (sym last) ∙ whole in
        let from : block.left ≤ column_of grid cell = h.0.0 in
        let below : column_of grid cell < block.right = h.0.1 in
        inr (omega arith, omega arith)

    backward : IsWithinBlock grid (rows_to block row) cell ⊎ ((row * grid.columns + block.left ≤ cell) × (cell < row * grid.columns + block.right)) →
        IsWithinBlock grid (rows_to block (row + 1)) cell
    backward (inl h) = let less : row_of grid cell < row = h.1.1 in (h.0, (h.1.0, omega arith))
    backward (inr (from, below)) =
        let is : cell ≡ row * grid.columns + (cell - row * grid.columns) = omega arith in
        let lt : cell - row * grid.columns < grid.columns = omega arith in
        let column : column_of grid cell ≡ cell - row * grid.columns =
        ap (λ n. n % grid.columns) is ∙ mod-mul-add row grid.columns (cell - row * grid.columns) lt in
        let in_row : row_of grid cell ≡ row = ap (λ n. n / grid.columns) is ∙ div-mul-add row grid.columns (cell - row * grid.columns) lt in
        rw (column, in_row) ((omega arith, omega arith), (low, next row))
