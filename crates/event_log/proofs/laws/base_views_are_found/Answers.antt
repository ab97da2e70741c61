use Rattle.event_log.proofs.AtFloor.{base_views_are_found}
use Rattle.event_log.proofs.laws.base_views_are_found.Goals as goal

pub returns : goal.returns
returns c = base_views_are_found
