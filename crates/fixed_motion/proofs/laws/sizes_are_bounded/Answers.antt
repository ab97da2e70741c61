use Rattle.fixed_motion.proofs.Sizes.{bounded}
use Rattle.fixed_motion.proofs.laws.sizes_are_bounded.Goals as goal

pub returns : goal.returns
returns c = bounded
