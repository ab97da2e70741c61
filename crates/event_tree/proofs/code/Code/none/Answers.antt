-- The greatest code is that of no key.
use Rattle.event_tree.proofs.Codes.{is_none, none_key}
use Rattle.event_tree.proofs.code.Code.none.Goals as goal

pub invariant_of-result : goal.invariant_of-result
invariant_of-result c = is_none

pub returns : goal.returns
returns c = none_key
