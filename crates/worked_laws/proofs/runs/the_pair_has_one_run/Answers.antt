-- A state has one run, and the pair's is known.
use Rattle.worked_laws.specs.Pair.{pair_rules, pair_disks}
use Rattle.worked_laws.proofs.PairRun.{pair_run}
use Rattle.worked_laws.proofs.runs.the_pair_has_one_run.Goals as goal

pub returns : goal.returns
returns c changes outcome run = c.one_run.ensures pair_rules pair_disks changes _ outcome _ run pair_run
