use Rattle.event_rules.proofs.Between.{never_overlaps_between}
use Rattle.event_rules.proofs.laws.never_overlaps_between.Goals as goal

pub returns : goal.returns
returns c = never_overlaps_between
