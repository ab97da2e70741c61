-- The numbers of two disks in the box are as great as a quadratic's may be.
use Rattle.event_rules.proofs.Approaches.{fit_approach}
use Rattle.event_rules.proofs.separation.approach_at.Goals as goal

pub returns : goal.returns
returns c = fit_approach c.args.s.now c.new.result c.new.ensures
