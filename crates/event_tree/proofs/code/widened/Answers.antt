-- The tick and the rest stand where they do in a number.
use Rattle.std.proofs.Common.{rules}
use Rattle.event_tree.specs.Codes.{widened}
use Rattle.event_tree.proofs.code.widened.Goals as goal

pub returns-then-code-eq-NO_CODE : goal.returns-then-code-eq-NO_CODE
unfolding widened
returns-then-code-eq-NO_CODE c = search rules

pub returns : goal.returns
unfolding widened
returns c = search rules
