-- Valid disks are near.
use Rattle.collision_sums.proofs.Near.{near}
use Rattle.cell_tests.proofs.Alone.{alone}
use Rattle.cell_tests.proofs.tests.sums.after_pair.Goals as goal

pub add-requires-clause-change : goal.add-requires-clause-change
add-requires-clause-change c =
    let rules = c.args.rules.now in record {
      before = alone c.args.old (near rules c.args.old c.requires.rules c.requires.old);
      first = near rules c.args.first c.requires.rules c.requires.first;
      second = near rules c.args.second c.requires.rules c.requires.second;
    }
