-- The raised numbers, shifted.
use Rattle.std.proofs.Common.{[], ◌∷◌, ◌-◌, ◌^◌}
use Rattle.std.specs.Prelude.{ℤ, pos, ◌-ℤ◌}
use Rattle.std.specs.Int.{int_wrap, w64}
use Rattle.event_rules.proofs.SideBySide.{held_again, low_ones, ones_fit}
use Rattle.event_rules.proofs.lanes.raised.Goals as goal

pub returns : goal.returns
returns c = λ m n held.
    let k : ℤ = pos (2 ^ c.args.bits - 1) in
    let ones = low_ones c.args.bits c.requires in
    let fits = ones_fit c.args.bits c.requires in
    let less = c.less.ensures k k m n (record { are = λ i. ones i ∷ (ones i ∷ []); first = fits; second = fits }) (held_again c.args.numbers m n held) in
    held_again c.shifted.result _ _ (c.shifted.ensures (int_wrap w64 (k -ℤ m)) (int_wrap w64 (k -ℤ n)) (held_again c.less.result _ _ less))
