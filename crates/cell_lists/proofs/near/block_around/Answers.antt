-- A cell of the grid is adjacent if its column and its row are at most one from those of the cell.
use Rattle.std.proofs.Common.{◌≡◌, ◌<◌, arith}
use Rattle.std.proofs.lemmas.Nat.{div_below, mod_below}
use Rattle.cell_grid.specs.Grid.{column_of, row_of}
use Rattle.cell_lists.proofs.near.block_around.Goals as goal

pub returns-clause-around : goal.returns-clause-around
returns-clause-around c = λ other of.
    let grid = c.args.grid.now in
    let some : 0 < grid.columns = omega arith in
    let column : column_of grid other < grid.columns = mod_below other grid.columns some in
    let row : row_of grid other < grid.rows = div_below other grid.columns grid.rows some of in
    let at : c.row-row.result ≡ row_of grid c.args.cell = c.row-row.ensures.value in (
      λ adjacent.
          let left = adjacent.0.0 in
          let right = adjacent.0.1 in
          let low = adjacent.1.0 in
          let high = adjacent.1.1 in
          ((omega arith, omega arith), (omega arith, omega arith)),
      λ inside.
          let left = inside.0.0 in
          let right = inside.0.1 in
          let low = inside.1.0 in
          let high = inside.1.1 in
          ((omega arith, omega arith), (omega arith, omega arith)),
    )
