use Rattle.cell_grid.proofs.Cells.{sound}
use Rattle.cell_grid.proofs.Ends.{room_of}
use Rattle.cell_grid.proofs.grid.Grid.room.Goals as goal

pub returns-clause-places : goal.returns-clause-places
returns-clause-places c =
    let rules = c.args.rules.now in
    let grid = c.args.self.now in
    room_of rules grid c.args.a.now c.args.cell (record { across = c.across.result; upwards = c.upwards.result })
    (sound rules grid c.requires.checked c.requires.grid).sizes
    c.across.ensures.coordinates c.upwards.ensures.coordinates
