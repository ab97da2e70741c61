use Rattle.fixed_motion.proofs.Ranges.{in_range, no_fault}
use Rattle.fixed_motion.proofs.laws.ranges_agree.Goals as goal

pub returns : goal.returns
returns c = λ n. (in_range n, no_fault n)
