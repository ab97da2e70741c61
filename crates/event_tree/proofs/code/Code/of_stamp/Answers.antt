-- The parts stand one after another, as in the narrowed number.
use Rattle.std.proofs.Common.{refl}
use Rattle.event_tree.proofs.Codes.{is_coded, coded_key}
use Rattle.event_tree.proofs.code.Code.of_stamp.Goals as goal

pub invariant_of-result : goal.invariant_of-result
invariant_of-result c = is_coded c.args.stamp _ c.requires (rw (c.from.ensures, c.kind_number.ensures.value, c.from-2.ensures, c.from-3.ensures) refl)

pub returns : goal.returns
returns c = coded_key c.args.stamp _ c.requires (rw (c.from.ensures, c.kind_number.ensures.value, c.from-2.ensures, c.from-3.ensures) refl)
