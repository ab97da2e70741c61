use Rattle.region_view.proofs.ValidRows.{actions_have_rows}
use Rattle.region_view.proofs.laws.actions_have_rows.Goals as goal

pub returns : goal.returns
returns c = actions_have_rows
