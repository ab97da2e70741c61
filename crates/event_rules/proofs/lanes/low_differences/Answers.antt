-- To wrap on the way changes nothing.
use Rattle.std.proofs.Common.{[], ◌∷◌, subst}
use Rattle.std.specs.Prelude.{ℤ, ◌-ℤ◌}
use Rattle.std.specs.Int.{int_wrap, w32, w64}
use Rattle.std.proofs.lemmas.Int.{SFits-int_wrap}
use Rattle.event_rules.specs.Lanes.{Hold}
use Rattle.event_rules.proofs.SideBySide.{subtracted, low_twice, held_again}
use Rattle.event_rules.proofs.lanes.low_differences.Goals as goal

pub returns : goal.returns
returns c =
    let z = c.args.number in
    let m = c.args.first in
    let n = c.args.second in
    let held = c.low_numbers.ensures (int_wrap w64 (z -ℤ m)) (int_wrap w64 (z -ℤ n)) (record {
      are = λ i. subtracted z m c.ranges.number c.ranges.first i ∷ (subtracted z n c.ranges.number c.ranges.second i ∷ []);
      first = SFits-int_wrap w64 (z -ℤ m);
      second = SFits-int_wrap w64 (z -ℤ n);
    }) in
    held_again c.low_numbers.result (int_wrap w32 (z -ℤ m)) (int_wrap w32 (z -ℤ n))
    (subst (λ (k : ℤ). Hold c.low_numbers.result k (int_wrap w32 (z -ℤ n))) (low_twice (z -ℤ m))
    (subst (λ (k : ℤ). Hold c.low_numbers.result (int_wrap w32 (int_wrap w64 (z -ℤ m))) k) (low_twice (z -ℤ n)) held))
