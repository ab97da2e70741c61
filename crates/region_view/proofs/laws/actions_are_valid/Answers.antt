use Rattle.region_view.proofs.ValidRows.{actions_are_valid}
use Rattle.region_view.proofs.laws.actions_are_valid.Goals as goal

pub returns : goal.returns
returns c = actions_are_valid
