-- The number is that of the key.
use Rattle.std.proofs.Common.{ap, ◌∙◌}
use Rattle.std.specs.Prelude.{ℕ}
use Rattle.event_tree.specs.Packing.{unpack}
use Rattle.event_tree.proofs.Packing.{packed, key_again}
use Rattle.event_tree.proofs.packed.Packed.new.Goals as goal

pub invariant_of-result : goal.invariant_of-result
invariant_of-result c = rw c.pack.ensures.value (packed c.args.key c.pack.ensures.room)

pub returns : goal.returns
returns c = ap (λ (n : ℕ). unpack n) c.pack.ensures.value ∙ key_again c.args.key c.pack.ensures.room
