use Rattle.region_view.proofs.ValidRows.{setting_keeps_valid}
use Rattle.region_view.proofs.laws.setting_keeps_valid.Goals as goal

pub returns : goal.returns
returns c = setting_keeps_valid
