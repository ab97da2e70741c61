-- The nearest impulse is taken if the two recede after it.
use Rattle.std.proofs.Common.{◌≡◌, true, false, rules, arith}
use Rattle.std.specs.Prelude.{ℤ, pos, FitsSigned, ◌<ℤ◌, ◌≤ℤ◌}
use Rattle.std.proofs.lemmas.Int.{ints, to_z-of_z}
use lib.Signed.{lt_z}
use mir.Syntax.{w64}
use Rattle.impulse_rounding.specs.Impulse.{nearest, ceiling}
use Rattle.impulse_rounding.proofs.Exact.{sizes_are, takes_nearest, takes_up}
use Rattle.impulse_rounding.proofs.rounded.Goals as goal

is_fast : (speed : ℤ) → lt_z (pos 0) speed ≡ true → pos 0 <ℤ speed
is_fast speed e = omega (arith, ints)

is_slow : (speed : ℤ) → lt_z (pos 0) speed ≡ false → speed ≤ℤ pos 0
is_slow speed e = omega (arith, ints)

pub returns-then-parting_speed-gt0-clause-value : goal.returns-then-parting_speed-gt0-clause-value
returns-then-parting_speed-gt0-clause-value c =
    let exact = c.exact_sizes-exact.ensures in
    let fits : FitsSigned w64 c.parting_speed.result = search rules in
    let fast = is_fast c.parting_speed.result (simp to_z-of_z at c.if-parting_speed-gt0.true) in
    takes_nearest c.args.r c.args.u _ _ (sizes_are nearest c.args.r c.args.u _ _ _ _ exact.x exact.y exact.divisor c.rounded_to_nearest-near.ensures.value)
    c.parting_speed.ensures fast

pub returns-else-parting_speed-gt0-clause-value : goal.returns-else-parting_speed-gt0-clause-value
returns-else-parting_speed-gt0-clause-value c =
    let exact = c.exact_sizes-exact.ensures in
    let fits : FitsSigned w64 c.parting_speed.result = search rules in
    let slow = is_slow c.parting_speed.result (simp to_z-of_z at c.if-parting_speed-gt0.false) in
    takes_up c.args.r c.args.u _ _ _ (sizes_are nearest c.args.r c.args.u _ _ _ _ exact.x exact.y exact.divisor c.rounded_to_nearest-near.ensures.value)
    c.parting_speed.ensures slow
    (sizes_are ceiling c.args.r c.args.u _ _ _ _ exact.x exact.y exact.divisor c.rounded_up.ensures.value)
