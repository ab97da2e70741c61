-- The three cells beyond a crossing.
use Rattle.std.proofs.Common.{◌≡◌, ◌⊎◌, inl, inr, ℕ, ◌+◌, ◌-◌, ◌*◌, ◌^◌, ◌<◌, ◌≤◌, arith, refl, sym, subst, ap, ◌∙◌}
use Rattle.std.proofs.Math.Nat.{mul-le-mul_right}
use Rattle.std.proofs.lemmas.Bool.{cases_lt}
use Rattle.std.proofs.lemmas.Nat.{div-add-mod', div-mul-add, mod-mul-add}
use Rattle.cell_grid.specs.Grid.{GridData, HasSizes, IsAdjacent, IsBeside, column_of, row_of}
use Rattle.cell_lists.specs.Nearby.{IsInLine}
use Rattle.region_queue.specs.Outside.{IsInside, IsStepBeyond}

-- the cell is beside the old one, or above or below it, and the step is that of the line beyond
abbrev pub IsCrossing : GridData → ℕ → ℕ → ℕ → Type 0
IsCrossing grid cell old step = ((step ≡ grid.columns) × ((old + 1 ≡ cell) ⊎ (cell + 1 ≡ old)))
    ⊎ ((step ≡ 1) × ((old + grid.columns ≡ cell) ⊎ (cell + grid.columns ≡ old)))

-- numbers that far apart
apart_by : (cell old n : ℕ) → (cell - old) + (old - cell) ≡ n → (old + n ≡ cell) ⊎ (cell + n ≡ old)
apart_by cell old n e = elim (cases_lt cell old) [
  | inl lt ↦ inr (omega arith)
  | inr le ↦ inl (omega arith)
]

crossing_of : (grid : GridData) (cell old apart columns step : ℕ) → apart ≡ (cell - old) + (old - cell) → columns ≡ grid.columns →
    IsStepBeyond apart columns step → IsCrossing grid cell old step
crossing_of grid cell old apart columns step apart_is columns_is is = elim is [
  | inl (one, step_is) ↦ inl (step_is ∙ columns_is, apart_by cell old 1 (sym apart_is ∙ one))
  | inr (row, step_is) ↦ inr (step_is, apart_by cell old grid.columns (sym apart_is ∙ row ∙ columns_is))
]

-- ---- numbers
-- how many cells are below one inside the grid, and above it
pub record HasRoom (grid : GridData) (cell : ℕ) : Type 0 where
  pub below : grid.columns + 1 ≤ cell
  pub above : cell + grid.columns + 1 < grid.rows * grid.columns
  pub few : grid.rows * grid.columns ≤ 1024 * 1024

whole : (grid : GridData) (cell : ℕ) → row_of grid cell * grid.columns + column_of grid cell ≡ cell
whole grid cell = div-add-mod' cell grid.columns

room : (grid : GridData) (cell : ℕ) → HasSizes grid → IsInside grid cell → HasRoom grid cell
room grid cell sizes inside =
    let columns = grid.columns in
    let row = row_of grid cell in
    let is = whole grid cell in
    let left = inside.left in
    let right = inside.right in
    let low : 1 ≤ row = inside.low in
    let high : row + 2 ≤ grid.rows = (let above = inside.high in omega arith) in
    let first : 1 * columns ≤ row * columns = mul-le-mul_right columns low in
    let last : (row + 2) * columns ≤ grid.rows * columns = mul-le-mul_right columns high in
    let all : grid.rows * columns ≤ 1024 * columns = mul-le-mul_right columns sizes.most_rows in
    let most = sizes.most_columns in
    record { below = omega arith; above = omega arith; few = omega arith }

-- the line is in the grid
pub record IsLineInGrid (grid : GridData) (cell old step : ℕ) : Type 0 where
  pub twice : 2 * cell < 2 ^ 32
  pub first : old + step ≤ 2 * cell
  pub last : 2 * cell - old - step + 2 * step < grid.rows * grid.columns

line_in_grid : (grid : GridData) (cell old step : ℕ) → HasRoom grid cell → IsCrossing grid cell old step → IsLineInGrid grid cell old step
line_in_grid grid cell old step has crossing = within (elim crossing [
  | inl (step_is, from) ↦ elim from [ inl right ↦ (omega arith, omega arith) | inr left ↦ (omega arith, omega arith) ]
  | inr (step_is, from) ↦ elim from [ inl up ↦ (omega arith, omega arith) | inr down ↦ (omega arith, omega arith) ]
])
  where
    within : (old + step ≤ cell + grid.columns + 1) × (cell + step ≤ old + grid.columns + 1) → IsLineInGrid grid cell old step
    within (low, high) =
        let below = has.below in
        let above = has.above in
        let few = has.few in
        record { twice = omega arith; first = omega arith; last = omega arith }

-- ---- one axis
three : (m n : ℕ) → IsBeside m n → (n + 1 ≡ m) ⊎ ((n ≡ m) ⊎ (n ≡ m + 1))
three m n beside = grind arith

-- beside a number and not beside the one before it or after it: past it
past : (old m n : ℕ) → (old + 1 ≡ m) ⊎ (m + 1 ≡ old) → IsBeside m n → ¬ IsBeside old n → n + old ≡ 2 * m
past old m n (inl before) beside not = elim (cases_lt n (m + 1)) [
  | inl lt ↦ absurd (not ((let low = beside.0 in omega arith), omega arith))
  | inr le ↦ (let high = beside.1 in omega arith)
]
past old m n (inr after) beside not = elim (cases_lt n m) [
  | inl lt ↦ (let low = beside.0 in omega arith)
  | inr le ↦ absurd (not (omega arith, (let high = beside.1 in omega arith)))
]

-- ---- the line
column_line : (columns row y x at ahead : ℕ) → y * columns + x ≡ at → row * columns + x ≡ ahead → IsBeside row y → columns ≤ ahead →
    IsInLine (ahead - columns) columns at
column_line columns row y x at ahead at_is ahead_is beside room = elim (three row y beside) [
  | inl e ↦ inl (let rows : (y + 1) * columns ≡ row * columns = ap (λ n. n * columns) e in omega arith)
  | inr (inl e) ↦ inr (inl (let rows : y * columns ≡ row * columns = ap (λ n. n * columns) e in omega arith))
  | inr (inr e) ↦ inr (inr (let rows : y * columns ≡ (row + 1) * columns = ap (λ n. n * columns) e in omega arith))
]

row_line : (columns column y x at ahead : ℕ) → y * columns + x ≡ at → y * columns + column ≡ ahead → IsBeside column x → 1 ≤ ahead →
    IsInLine (ahead - 1) 1 at
row_line columns column y x at ahead at_is ahead_is beside room = elim (three column x beside) [
  | inl e ↦ inl (omega arith)
  | inr (inl e) ↦ inr (inl (omega arith))
  | inr (inr e) ↦ inr (inr (omega arith))
]

-- the column and the row of the old cell
placed : (grid : GridData) (old row column : ℕ) → column < grid.columns → old ≡ row * grid.columns + column →
    (column_of grid old ≡ column) × (row_of grid old ≡ row)
placed grid old row column lt is = (
  ap (column_of grid) is ∙ mod-mul-add row grid.columns column lt,
  ap (row_of grid) is ∙ div-mul-add row grid.columns column lt,
)

-- from one side, out of the column `was`
sideways : (grid : GridData) (cell old at was : ℕ) → HasRoom grid cell → was < grid.columns →
    old ≡ row_of grid cell * grid.columns + was → (was + 1 ≡ column_of grid cell) ⊎ (column_of grid cell + 1 ≡ was) →
    old ≤ cell + 1 → IsAdjacent grid cell at → ¬ IsAdjacent grid old at → IsInLine (2 * cell - old - grid.columns) grid.columns at
sideways grid cell old at was has lt old_is from near beside not =
    let columns = grid.columns in
    let row = row_of grid cell in
    let column = column_of grid cell in
    let is = whole grid cell in
    let below = has.below in
    let old_at = placed grid old row was lt old_is in
    let x : column_of grid at + was ≡ 2 * column = past was column (column_of grid at) from beside.0 (λ same. not (
      subst (λ (n : ℕ). IsBeside n (column_of grid at)) (sym old_at.0) same,
      subst (λ (n : ℕ). IsBeside n (row_of grid at)) (sym old_at.1) beside.1,
    )) in
    column_line columns row (row_of grid at) (column_of grid at) at (2 * cell - old) (whole grid at) (omega arith) beside.1 (omega arith)

-- from below or above, out of the row `was`
upright : (grid : GridData) (cell old at was : ℕ) → IsInside grid cell → HasRoom grid cell →
    old ≡ was * grid.columns + column_of grid cell → (was + 1 ≡ row_of grid cell) ⊎ (row_of grid cell + 1 ≡ was) →
    old ≤ cell + grid.columns → IsAdjacent grid cell at → ¬ IsAdjacent grid old at → IsInLine (2 * cell - old - 1) 1 at
upright grid cell old at was inside has old_is from near beside not =
    let columns = grid.columns in
    let row = row_of grid cell in
    let column = column_of grid cell in
    let is = whole grid cell in
    let below = has.below in
    let right : column + 1 < columns = inside.right in
    let old_at = placed grid old was column (omega arith) old_is in
    let y : row_of grid at + was ≡ 2 * row = past was row (row_of grid at) from beside.1 (λ same. not (
      subst (λ (n : ℕ). IsBeside n (column_of grid at)) (sym old_at.0) beside.0,
      subst (λ (n : ℕ). IsBeside n (row_of grid at)) (sym old_at.1) same,
    )) in
    let rows : (row_of grid at + was) * columns ≡ 2 * row * columns = ap (λ n. n * columns) y in
    row_line columns column (row_of grid at) (column_of grid at) at (2 * cell - old) (whole grid at) (omega arith) beside.0 (omega arith)

all_beyond : (grid : GridData) (cell old step : ℕ) → IsInside grid cell → HasRoom grid cell → IsCrossing grid cell old step → (at : ℕ) →
    IsAdjacent grid cell at → ¬ IsAdjacent grid old at → IsInLine (2 * cell - old - step) step at
all_beyond grid cell old step inside has crossing at beside not =
    let row = row_of grid cell in
    let column = column_of grid cell in
    let is = whole grid cell in
    let left : 0 < column = inside.left in
    let right : column + 1 < grid.columns = inside.right in
    let low : 0 < row = inside.low in
    let one_less : (row - 1 + 1) * grid.columns ≡ row * grid.columns =
    ap (λ n. n * grid.columns) (let e : row - 1 + 1 ≡ row = omega arith in e) in
    elim crossing [
      | inl (step_is, from) ↦ subst (λ (n : ℕ). IsInLine (2 * cell - old - n) n at) (sym step_is) (elim from [
        | inl e ↦ sideways grid cell old at (column - 1) has (omega arith) (omega arith) (inl (omega arith)) (omega arith) beside not
        | inr e ↦ sideways grid cell old at (column + 1) has (omega arith) (omega arith) (inr refl) (omega arith) beside not
      ])
      | inr (step_is, from) ↦ subst (λ (n : ℕ). IsInLine (2 * cell - old - n) n at) (sym step_is) (elim from [
        | inl e ↦ upright grid cell old at (row - 1) inside has (omega arith) (inl (omega arith)) (omega arith) beside not
        | inr e ↦ upright grid cell old at (row + 1) inside has (omega arith) (inr refl) (omega arith) beside not
      ])
    ]

-- the line of a crossing, by how far apart the numbers of the cells are
pub line_beyond : (grid : GridData) (cell old apart columns step : ℕ) → HasSizes grid → IsInside grid cell →
    apart ≡ (cell - old) + (old - cell) → columns ≡ grid.columns → IsStepBeyond apart columns step →
    IsLineInGrid grid cell old step × ((at : ℕ) → IsAdjacent grid cell at → ¬ IsAdjacent grid old at → IsInLine (2 * cell - old - step) step at)
line_beyond grid cell old apart columns step sizes inside apart_is columns_is is =
    let has = room grid cell sizes inside in
    let crossing = crossing_of grid cell old apart columns step apart_is columns_is is in
    (line_in_grid grid cell old step has crossing, all_beyond grid cell old step inside has crossing)
