-- The code is that of the key's number.
use Rattle.std.proofs.Common.{ℕ, ap, ◌∙◌}
use Rattle.event_tree.specs.Packing.{unpack}
use Rattle.event_tree.specs.Codes.{key_of}
use Rattle.event_tree.proofs.Codes.{is_code, wide_again}
use Rattle.event_tree.proofs.code.Code.of.Goals as goal

pub invariant_of-result : goal.invariant_of-result
invariant_of-result c =
    rw c.narrowed.ensures (is_code c.number-number.result c.number-number.ensures.packed (c.has_code.ensures.0 c.if-has_code.true))

pub returns-then-has_code : goal.returns-then-has_code
returns-then-has_code c =
    ap (λ (n : ℕ). key_of n) c.narrowed.ensures
    ∙ ap (λ (n : ℕ). unpack n) (wide_again c.number-number.result c.number-number.ensures.packed (c.has_code.ensures.0 c.if-has_code.true))
    ∙ c.number-number.ensures.key
