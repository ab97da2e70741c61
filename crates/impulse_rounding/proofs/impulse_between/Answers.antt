-- After the impulse the two recede, and the energy nearly stays.
use Rattle.impulse_rounding.proofs.Change.{energy_kept}
use Rattle.impulse_rounding.proofs.Exact.{recedes}
use Rattle.impulse_rounding.proofs.impulse_between.Goals as goal

pub returns-clause-recedes : goal.returns-clause-recedes
returns-clause-recedes c =
    rw c.rounded.ensures.value (recedes c.args.r c.args.u c.requires.approaching)

pub returns-clause-energy : goal.returns-clause-energy
returns-clause-energy c =
    rw c.rounded.ensures.value (energy_kept c.args.r c.args.u c.requires.approaching)
