-- The parts stand one after another.
use Rattle.std.proofs.Common.{rules}
use Rattle.event_tree.specs.Packing.{number_of_stamp}
use Rattle.event_tree.proofs.packed.number_of.Goals as goal

pub returns-clause-value : goal.returns-clause-value
unfolding number_of_stamp
returns-clause-value c = search rules
