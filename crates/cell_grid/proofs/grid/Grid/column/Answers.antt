-- What is left of the cell's number below its row.
use Rattle.std.proofs.Common.{◌≡◌, ℕ, ◌-◌, ◌*◌, ◌/◌, ◌%◌, ◌<◌, ◌≤◌, sym, arith}
use Rattle.std.proofs.Math.Nat.{div-mul-le_self, mod-eq-sub-div-mul}
use Rattle.cell_grid.proofs.grid.Grid.column.Goals as goal

-- the column as the code computes it
record IsColumn (columns row cell : ℕ) : Type 0 where
  pub before : row * columns ≤ cell
  pub value : cell - row * columns ≡ cell % columns
  pub below : cell - row * columns < columns

column_is : (columns row cell : ℕ) → 1 ≤ columns → row ≡ cell / columns → IsColumn columns row cell
column_is columns row cell some e = rw e (record {
  before = div-mul-le_self cell columns;
  value = sym (mod-eq-sub-div-mul cell columns);
  below = rw (← mod-eq-sub-div-mul cell columns) (below_columns cell columns some);
})
  where
    below_columns : (n columns : ℕ) → 1 ≤ columns → n % columns < columns
    below_columns n columns some = grind arith

pub overflow_mul-result : goal.overflow_mul-result
overflow_mul-result c =
    let row = rw (← c.self.view_is) at c.row.ensures.value in
    omega (arith, c.ranges.cell, (column_is c.self.inside.columns c.row.result c.args.cell c.self.invariant.sizes.columns row).before)

pub overflow_sub-result : goal.overflow_sub-result
overflow_sub-result c =
    let row = rw (← c.self.view_is) at c.row.ensures.value in
    omega (arith, (column_is c.self.inside.columns c.row.result c.args.cell c.self.invariant.sizes.columns row).before)

pub returns-clause-value : goal.returns-clause-value
returns-clause-value c =
    let row = rw (← c.self.view_is) at c.row.ensures.value in
    rw (← c.self.view_is) (column_is c.self.inside.columns c.row.result c.args.cell c.self.invariant.sizes.columns row).value

pub returns-clause-in_range : goal.returns-clause-in_range
returns-clause-in_range c =
    let row = rw (← c.self.view_is) at c.row.ensures.value in
    rw (← c.self.view_is) (column_is c.self.inside.columns c.row.result c.args.cell c.self.invariant.sizes.columns row).below
