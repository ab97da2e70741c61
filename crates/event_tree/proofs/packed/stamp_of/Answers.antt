-- Each part is taken from its place.
use Rattle.std.proofs.Common.{rules, arith}
use Rattle.event_tree.specs.Packing.{stamp_of_number}
use Rattle.event_tree.proofs.packed.stamp_of.Goals as goal

pub overflow_cast-result : goal.overflow_cast-result
unfolding stamp_of_number
overflow_cast-result c = omega (arith, c.requires.tick)

pub returns : goal.returns
unfolding stamp_of_number
returns c = search rules
