use Rattle.std.proofs.Common.{◌≡◌, ◌∙◌, ℕ, ℤ, pos, ◌+◌, ◌-◌, ◌*◌, ◌/◌, ◌^◌, ◌<◌, ◌≤◌, ◌≤ℤ◌, min, nat_abs, w32, ap, arith}
use Rattle.std.proofs.Math.Nat.{mul-le-mul}
use Rattle.std.proofs.lemmas.Int.{ints}
use Rattle.plane_vectors.proofs.Sizes.{sent_same}
use mir.Val.{Fits}
use Rattle.cell_grid.specs.Grid.{along, reciprocal_of}
use Rattle.cell_grid.proofs.Courses.{side_cast}
use Rattle.cell_grid.proofs.Cells.{least_below, numbered}
use Rattle.cell_grid.proofs.grid.Grid.cell_of.Goals as goal

pub returns-clause-cell : goal.returns-clause-cell
returns-clause-cell c =
    let i = c.self.inside in
    let row = least_below _ i.rows c.min-row.result c.self.invariant.sizes.rows c.min-row.ensures in
    let column = least_below _ i.columns c.min-column.result c.self.invariant.sizes.columns c.min-column.ensures in
    rw (← c.self.view_is) (numbered c.min-row.result c.min-column.result i.rows i.columns row column)

-- a number of a cell fits, and so does that of the first cell of its row
record IsNumber (row column columns : ℕ) : Type 0 where
  pub first : Fits w32 (row * columns)
  pub own : Fits w32 (row * columns + column)

number_fits : (row column rows columns : ℕ) → row < rows → column < columns → rows ≤ 1024 → columns ≤ 1024 →
    IsNumber row column columns
number_fits row column rows columns r c most_rows most_columns =
    let cell = numbered row column rows columns r c in
    let most : rows * columns ≤ 1024 * 1024 = mul-le-mul most_rows most_columns in
    record { first = omega arith; own = omega arith }

pub overflow_mul-result : goal.overflow_mul-result
overflow_mul-result c =
    let i = c.self.inside in
    let row = least_below _ i.rows c.min-row.result c.self.invariant.sizes.rows c.min-row.ensures in
    let column = least_below _ i.columns c.min-column.result c.self.invariant.sizes.columns c.min-column.ensures in
    (number_fits c.min-row.result c.min-column.result i.rows i.columns row column c.self.invariant.sizes.most_rows c.self.invariant.sizes.most_columns).first

pub overflow_add-result : goal.overflow_add-result
overflow_add-result c =
    let i = c.self.inside in
    let row = least_below _ i.rows c.min-row.result c.self.invariant.sizes.rows c.min-row.ensures in
    let column = least_below _ i.columns c.min-column.result c.self.invariant.sizes.columns c.min-column.ensures in
    (number_fits c.min-row.result c.min-column.result i.rows i.columns row column c.self.invariant.sizes.most_rows c.self.invariant.sizes.most_columns).own

-- a coordinate in the box times a side of a cell
small_product : (n : ℤ) (side : ℕ) → pos 0 ≤ℤ n → n ≤ℤ pos 1073741824 → side ≤ 2 ^ 30 → nat_abs n * side < 2 ^ 62
small_product n side some most few =
    let size : nat_abs n ≤ 2 ^ 30 = omega (arith, ints) in
    let room : nat_abs n * side ≤ 2 ^ 30 * 2 ^ 30 = mul-le-mul size few in
    omega arith

-- an index as the code computes it
along_is : (n : ℤ) (m index side count reciprocal before : ℕ) → pos 0 ≤ℤ n → n ≤ℤ pos 1073741824 → m ≡ nat_abs n →
    1 ≤ side → side ≤ 2 ^ 30 → reciprocal ≡ reciprocal_of (2 ^ 62) side →
    ((side : ℕ) → 1 ≤ side → m * side < 2 ^ 62 → reciprocal ≡ reciprocal_of (2 ^ 62) side → before ≡ m / side) →
    index ≡ min before (count - 1) → index ≡ along side count n
along_is n m index side count reciprocal before some most size one few is told e =
    let product : m * side < 2 ^ 62 = rw size (small_product n side some most few) in
    let whole : before ≡ m / side = told side one product is in
    e ∙ ap (λ (k : ℕ). min k (count - 1)) (whole ∙ ap (λ (k : ℕ). k / side) size)

pub returns-clause-value : goal.returns-clause-value
returns-clause-value c =
    let i = c.self.inside in
    let has = c.self.invariant in
    let row : c.min-row.result ≡ along i.side_y i.rows c.args.y =
    along_is c.args.y _ _ i.side_y i.rows i.reciprocal_y c.sides_before-2.result c.requires.y.0 c.requires.y.1
    (ap nat_abs (sent_same c.args.y c.ranges.y)) has.sizes.side_y has.most_y has.y c.sides_before-2.ensures c.min-row.ensures in
    let column : c.min-column.result ≡ along i.side_x i.columns c.args.x =
    along_is c.args.x _ _ i.side_x i.columns i.reciprocal_x c.sides_before.result c.requires.x.0 c.requires.x.1
    (ap nat_abs (sent_same c.args.x c.ranges.x)) has.sizes.side_x has.most_x has.x c.sides_before.ensures c.min-column.ensures in
    rw (← c.self.view_is) (λ k. row k * i.columns + column k)

pub overflow_cast-x : goal.overflow_cast-x
overflow_cast-x c = side_cast c.args.x c.requires.x.0 c.requires.x.1

pub overflow_cast-y : goal.overflow_cast-y
overflow_cast-y c = side_cast c.args.y c.requires.y.0 c.requires.y.1
