-- A disk that leaves its cell does so before it hits a side.
use Rattle.region_view.proofs.First.{crossing_is_first, wall_is_first}
use Rattle.region_view.proofs.events.first_alone.Goals as goal

pub returns-in-Some : goal.returns-in-Some
returns-in-Some c =
    crossing_is_first c.args.rules.now c.args.grid.now c.args.number c.args.row.now c.in-Some.crossing c.requires.valid c.in-Some.ensures

pub returns-in-None : goal.returns-in-None
returns-in-None c =
    wall_is_first c.args.rules.now c.args.grid.now c.args.number c.args.row.now c.first_wall.result c.in-None.ensures c.first_wall.ensures
