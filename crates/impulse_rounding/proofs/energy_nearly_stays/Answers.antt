use Rattle.impulse_rounding.proofs.Change.{energy_kept}
use Rattle.impulse_rounding.proofs.energy_nearly_stays.Goals as goal

pub returns : goal.returns
returns c = energy_kept
