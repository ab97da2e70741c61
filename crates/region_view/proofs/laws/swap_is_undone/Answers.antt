use Rattle.region_view.proofs.Puts.{swap_is_undone}
use Rattle.region_view.proofs.laws.swap_is_undone.Goals as goal

pub returns : goal.returns
returns c = swap_is_undone
