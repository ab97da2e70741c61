use Rattle.event_rules.proofs.Joins.{never_jumps}
use Rattle.event_rules.proofs.laws.never_jumps.Goals as goal

pub returns : goal.returns
returns c = never_jumps
