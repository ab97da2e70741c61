-- The tick and the rest stand one after another.
use Rattle.std.proofs.Common.{rules}
use Rattle.event_tree.specs.Codes.{narrowed}
use Rattle.event_tree.proofs.code.narrowed.Goals as goal

pub returns : goal.returns
unfolding narrowed
returns c = search rules
