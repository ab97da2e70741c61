use Rattle.std.proofs.Common.{◌∙◌}
use Rattle.region_view.proofs.InSlots.{get_in}
use Rattle.region_view.proofs.view.View.get.Goals as goal

pub returns : goal.returns
returns c = c.get.ensures ∙ get_in c.self.inside.slots c.args.self.now c.args.disk c.self.view_is
