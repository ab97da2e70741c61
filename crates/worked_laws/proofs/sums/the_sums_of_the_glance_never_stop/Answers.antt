-- The margin is 5.
use Rattle.worked_laws.specs.Glance.{glance_scene}
use Rattle.worked_laws.proofs.ValidRows.{glance_valid}
use Rattle.worked_laws.proofs.sums.the_sums_of_the_glance_never_stop.Goals as goal

pub returns : goal.returns
returns c changes outcome run = (c.sums_never_stop.ensures 5 glance_scene changes outcome glance_valid run).1
