-- Both sizes are even.
use Rattle.std.proofs.Common.{arith}
use Rattle.std.specs.Prelude.{ℤ, pos, ◌≤ℤ◌}
use Rattle.std.proofs.lemmas.Int.{ints}
use Rattle.fixed_motion.specs.declared.rules.Rules.{Rules}
use Rattle.fixed_motion.specs.Rules.{IsChecked}
use Rattle.event_rules.proofs.Leads.{half_told}
use Rattle.event_rules.proofs.separation.distance_between.Goals as goal

most : (rules : Rules) (size : ℤ) → IsChecked rules → size ≤ℤ rules.diameter → size ≤ℤ pos 1073741824
most rules size checked le = omega (arith, ints, checked.diameter.1, checked.width.1)

pub returns : goal.returns
returns c = λ rules pair.
    let first = pair.first.size in
    let second = pair.second.size in
    half_told c.args.a.now.size c.args.b.now.size c.cast_signed.result c.cast_unsigned.result
    first.range.0 (most rules c.args.a.now.size pair.checked first.range.1) second.range.0 (most rules c.args.b.now.size pair.checked second.range.1)
    first.even second.even c.cast_unsigned.ensures c.cast_signed.ensures
