-- A number that doesn't fit the rules is out of its range, and so is the one that replaces it.
use Rattle.std.proofs.Common.{◌≡◌, ◌^◌, ℤ, pos, negsuc, Bool, true, false, Some, Ok, Err, refl, ap, sym, ◌∙◌, arith}
use Rattle.std.specs.Prelude.{nat_lt, if◌then◌else◌}
use Rattle.std.proofs.lemmas.Int.{ints}
use Rattle.std.proofs.lemmas.Bool.Decides.{nat_tests}
use Rattle.std.proofs.lemmas.Result.{err_from_is_err_and}
use Rattle.fixed_motion.specs.declared.rules.Rules.{Rules}
use Rattle.fixed_motion.specs.declared.rules.RuleFault.{RuleFault}
use Rattle.fixed_motion.specs.Rules.{Numbers, six_numbers, is_in, round_limits, ends, rule_fault}
use Rattle.scene_reader.specs.declared.fault.SceneFault.TheVariants.{Rules as BadRules}
use Rattle.scene_reader.specs.Clamped.{rounds_of, end_of, clamped}
use Rattle.scene_reader.specs.Seen.{numbers_seen}
use Rattle.scene_reader.specs.Steps.{◌>>◌, none_found}
use Rattle.scene_reader.specs.Numbers.{rules_with, rules_of}
use Rattle.scene_reader.proofs.numbers.rules_of.Goals as goal

rounds_tested : (n : ℤ) → is_in round_limits (pos (rounds_of n)) ≡ is_in round_limits n
rounds_tested (pos n) = by_test (nat_lt n (2 ^ 32)) refl
  where
    by_test : (b : Bool) → nat_lt n (2 ^ 32) ≡ b → is_in round_limits (pos (if b then n else 0)) ≡ is_in round_limits (pos n)
    by_test true h = refl
    by_test false h = grind (arith, ints, nat_tests)
rounds_tested (negsuc n) = refl

end_tested : (n : ℤ) → is_in ends (pos (end_of n)) ≡ is_in ends n
end_tested (pos n) = refl
end_tested (negsuc n) = refl

fault_clamped : (n : Numbers) → rule_fault (six_numbers (clamped n)) ≡ rule_fault n
fault_clamped n = rw (rounds_tested n.round_limit, end_tested n.end)

refused : (n : Numbers) (rules : Rules) (fault : RuleFault) → rules ≡ clamped n → rule_fault (six_numbers rules) ≡ Some fault → rules_of n ≡ Err (BadRules fault)
refused n rules fault e h =
    let found : rule_fault n ≡ Some fault = sym (fault_clamped n) ∙ ap (λ r. rule_fault (six_numbers r)) (sym e) ∙ h in
    λ i. none_found BadRules (found i) >> Ok (rules_with n)

pub returns-in_err-check : goal.returns-in_err-check
returns-in_err-check c =
    let p = err_from_is_err_and c.from_residual.result c.from_residual.ensures.1 in
    rw (p.1, p.2) (refused (numbers_seen c.args.numbers.now) c.clamped-rules.result c.in_err-check.field-0.0 c.clamped-rules.ensures c.in_err-check.ensures)
