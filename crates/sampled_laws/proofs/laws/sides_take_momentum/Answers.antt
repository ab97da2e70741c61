-- The momentum at the end is that at the start, and what the sides turned.
use Rattle.event_rules.proofs.Conserved.{runs_conserve}
use Rattle.sampled_laws.proofs.Sides.{sides_take_momentum_by}
use Rattle.sampled_laws.proofs.laws.sides_take_momentum.Goals as goal

pub returns : goal.returns
returns c = sides_take_momentum_by runs_conserve
