-- The texts are the blocks before each change.
use Rattle.run_samples.proofs.Woven.{woven}
use Rattle.run_samples.proofs.laws.states_are_of_lines.Goals as goal

pub returns : goal.returns
returns c = woven
