-- The coordinates are within the bounds of the box and of the row.
use Rattle.std.proofs.Common.{arith}
use Rattle.std.proofs.lemmas.Int.{ints}
use Rattle.fixed_motion.specs.Motion.{radius_of}
use Rattle.fixed_motion.proofs.Sizes.{radius_least}
use Rattle.cell_grid.specs.Grid.{row_of}
use Rattle.cell_grid.specs.Leaving.{AreOfColumn}
use Rattle.cell_grid.proofs.Cells.{sound}
use Rattle.cell_grid.proofs.Courses.{within_axis}
use Rattle.cell_grid.proofs.grid.Grid.upwards.Goals as goal

pub bounds-row-requires-clause-side : goal.bounds-row-requires-clause-side
bounds-row-requires-clause-side c =
    rw c.height_cut.ensures.side (sound c.args.rules.now c.args.self.now c.requires.checked c.requires.grid).sizes.side_y

pub bounds-row-requires-clause-size : goal.bounds-row-requires-clause-size
bounds-row-requires-clause-size c =
    let most = c.requires.checked.height.1 in
    let fits = (sound c.args.rules.now c.args.self.now c.requires.checked c.requires.grid).upwards in
    rw (c.height_cut.ensures.side, c.height_cut.ensures.count) (omega (arith, ints))

pub returns-clause-coordinates : goal.returns-clause-coordinates
returns-clause-coordinates c n =
    let rules = c.args.rules.now in
    let grid = c.args.self.now in
    let a = c.args.a.now in
    let row : AreOfColumn grid.side_y grid.rows (row_of grid c.args.cell) c.bounds-row.result =
    rw (c.height_cut.ensures.side, c.height_cut.ensures.count, c.row.ensures.value) at c.bounds-row.ensures.column in
    within_axis (radius_of a) rules.height grid.side_y grid.rows (row_of grid c.args.cell)
    c.upwards_in_box.result c.bounds-row.result c.shared.result n
    (radius_least rules a c.requires.valid.size) c.requires.checked.height.1
    c.upwards_in_box.ensures.least c.upwards_in_box.ensures.greatest row c.shared.ensures.both
