-- The coordinates are within the bounds of the box and of the column.
use Rattle.std.proofs.Common.{arith}
use Rattle.std.proofs.lemmas.Int.{ints}
use Rattle.fixed_motion.specs.Motion.{radius_of}
use Rattle.fixed_motion.proofs.Sizes.{radius_least}
use Rattle.cell_grid.specs.Grid.{column_of}
use Rattle.cell_grid.specs.Leaving.{AreOfColumn}
use Rattle.cell_grid.proofs.Cells.{sound}
use Rattle.cell_grid.proofs.Courses.{within_axis}
use Rattle.cell_grid.proofs.grid.Grid.across.Goals as goal

pub bounds-column-requires-clause-side : goal.bounds-column-requires-clause-side
bounds-column-requires-clause-side c =
    rw c.width_cut.ensures.side (sound c.args.rules.now c.args.self.now c.requires.checked c.requires.grid).sizes.side_x

pub bounds-column-requires-clause-size : goal.bounds-column-requires-clause-size
bounds-column-requires-clause-size c =
    let most = c.requires.checked.width.1 in
    let fits = (sound c.args.rules.now c.args.self.now c.requires.checked c.requires.grid).across in
    rw (c.width_cut.ensures.side, c.width_cut.ensures.count) (omega (arith, ints))

pub returns-clause-coordinates : goal.returns-clause-coordinates
returns-clause-coordinates c n =
    let rules = c.args.rules.now in
    let grid = c.args.self.now in
    let a = c.args.a.now in
    let column : AreOfColumn grid.side_x grid.columns (column_of grid c.args.cell) c.bounds-column.result =
    rw (c.width_cut.ensures.side, c.width_cut.ensures.count, c.column.ensures.value) at c.bounds-column.ensures.column in
    within_axis (radius_of a) rules.width grid.side_x grid.columns (column_of grid c.args.cell)
    c.across_box.result c.bounds-column.result c.shared.result n
    (radius_least rules a c.requires.valid.size) c.requires.checked.width.1
    c.across_box.ensures.least c.across_box.ensures.greatest column c.shared.ensures.both
