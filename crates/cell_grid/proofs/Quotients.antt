-- Quotients by products with reciprocals, in place of divisions.
use Rattle.std.proofs.Common.{◌≡◌, ℕ, ◌+◌, ◌*◌, ◌/◌, ◌<◌, ◌≤◌, ◌^◌, arith}
use Rattle.std.proofs.Math.Nat.{mul-le-mul, mul-le-mul_left, mul-le-mul_right, div-mul-le_self, lt-mul-div-succ, lt_of_mul-lt-mul_right}
use Rattle.cell_grid.specs.Grid.{reciprocal_of}
use Rattle.cell_grid.proofs.Columns.{quotient_is}

scaled : (scale divisor reciprocal n q : ℕ) → n * divisor < scale → reciprocal * divisor ≤ scale + divisor → n + 1 ≤ (q + 1) * divisor →
    n * reciprocal * divisor < (q * scale + scale) * divisor
scaled scale divisor reciprocal n q small under most =
    let first : n * (reciprocal * divisor) ≤ n * (scale + divisor) = mul-le-mul_left n under in
    let then : (n + 1) * scale ≤ ((q + 1) * divisor) * scale = mul-le-mul_right scale most in
    omega arith

by_bounds : (scale divisor reciprocal n q : ℕ) → 1 ≤ scale → n * divisor < scale → scale ≤ reciprocal * divisor →
    reciprocal * divisor ≤ scale + divisor → q * divisor ≤ n → n + 1 ≤ (q + 1) * divisor → n * reciprocal / scale ≡ q
by_bounds scale divisor reciprocal n q some small over under least most =
    let first : q * scale ≤ q * (reciprocal * divisor) = mul-le-mul_left q over in
    let then : (q * divisor) * reciprocal ≤ n * reciprocal = mul-le-mul_right reciprocal least in
    (quotient_is scale q (n * reciprocal) some).0
    (omega arith, lt_of_mul-lt-mul_right divisor (scaled scale divisor reciprocal n q small under most))

-- a product with the reciprocal, by the scale, is the quotient, if the scale is great enough
pub quotient_by_reciprocal : (scale divisor n : ℕ) → 1 ≤ divisor → n * divisor < scale → n * reciprocal_of scale divisor / scale ≡ n / divisor
quotient_by_reciprocal scale divisor n some small =
    let over = lt-mul-div-succ scale {b = divisor} (omega arith) in
    let under = div-mul-le_self scale divisor in
    let most = lt-mul-div-succ n {b = divisor} (omega arith) in
    by_bounds scale divisor (reciprocal_of scale divisor) n (n / divisor) (omega arith) small (omega arith) (omega arith)
    (div-mul-le_self n divisor) (omega arith)

-- so the product for a cell is the cell's row
pub row_by_reciprocal : (columns reciprocal cell : ℕ) → 1 ≤ columns → columns ≤ 1024 → cell < 1024 * 1024 → reciprocal ≡ reciprocal_of (2 ^ 32) columns →
    cell * reciprocal / 2 ^ 32 ≡ cell / columns
row_by_reciprocal columns reciprocal cell some most within e =
    let few : cell ≤ 1024 * 1024 = omega arith in
    let room : cell * columns ≤ (1024 * 1024) * 1024 = mul-le-mul few most in
    rw e (quotient_by_reciprocal (2 ^ 32) columns cell some (omega arith))

-- a grid has at most 2^20 cells
pub few_cells : (rows columns cell : ℕ) → rows ≤ 1024 → columns ≤ 1024 → cell < rows * columns → cell < 1024 * 1024
few_cells rows columns cell most_rows most_columns within =
    let room : rows * columns ≤ 1024 * 1024 = mul-le-mul most_rows most_columns in
    omega arith
