-- A valid disk is near.
use Rattle.collision_sums.proofs.Near.{near}
use Rattle.cell_tests.proofs.Alone.{alone}
use Rattle.cell_tests.proofs.tests.sums.after_wall.Goals as goal

pub add-requires-clause-change : goal.add-requires-clause-change
add-requires-clause-change c =
    let disk = near c.args.rules.now c.args.disk c.requires.rules c.requires.disk in
    record { before = alone c.args.disk disk; first = disk; second = tt }
