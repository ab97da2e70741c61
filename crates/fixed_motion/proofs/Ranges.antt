-- There is no fault if and only if each number is in its range.
use Rattle.std.proofs.Common.{◌≡◌, ◌↔◌, ◌∙◌, sym, ℕ, ◌%◌, ◌≤◌, Bool, ◌&&◌, ◌==◌, int_le, true, false, if◌then◌else◌, IsTrue, ℤ, pos, nat_abs, ◌≤ℤ◌, refl, arith}
use Rattle.std.specs.Prelude.{Option, Some, None}
use Rattle.std.proofs.lemmas.Int.{ints}
use Rattle.fixed_motion.specs.declared.rules.RuleFault.{RuleFault}
use Rattle.fixed_motion.specs.declared.rules.Rules.{Rules}
use Rattle.fixed_motion.specs.Rules.{Numbers, Range, IsIn, AreNumbersInRange, rule_fault, is_in, is_size, sides, speed_limits, round_limits, ends}
use Rattle.fixed_motion.specs.Motion.{IsSize}

-- ---- tests
both : (a b : Bool) → (a && b) ≡ true → (a ≡ true) × (b ≡ true)
both true b h = (refl, h)
both false b h = (h, cc)

joined : (a b : Bool) → a ≡ true → b ≡ true → (a && b) ≡ true
joined true b h k = k
joined false b h k = h

from_le : (a b : ℤ) → int_le a b ≡ true → a ≤ℤ b
from_le a b h = omega (arith, ints)

to_le : (a b : ℤ) → a ≤ℤ b → int_le a b ≡ true
to_le a b h = grind (arith, ints)

from_zero : (n : ℕ) → (n == 0) ≡ true → n ≡ 0
from_zero n h = grind arith

to_zero : (n : ℕ) → n ≡ 0 → (n == 0) ≡ true
to_zero n h = grind arith

from_in : (range : Range) (n : ℤ) → is_in range n ≡ true → IsIn range n
from_in range n h = let ends = both (int_le range.0 n) (int_le n range.1) h in (from_le range.0 n ends.0, from_le n range.1 ends.1)

to_in : (range : Range) (n : ℤ) → IsIn range n → is_in range n ≡ true
to_in range n h = joined (int_le range.0 n) (int_le n range.1) (to_le range.0 n h.0) (to_le n range.1 h.1)

pub rounds_in : (n : ℕ) → 1 ≤ n → n ≤ 65536 → is_in round_limits (pos n) ≡ true
rounds_in n least most = to_in round_limits (pos n) (omega (arith, ints), omega (arith, ints))

pub ends_in : (n : ℕ) → n ≤ 1099511627776 → is_in ends (pos n) ≡ true
ends_in n most = to_in ends (pos n) (omega (arith, ints), omega (arith, ints))

size_by_test : (rules : Rules) (n : ℤ) → is_size rules.diameter n ≡ true → IsSize rules n
size_by_test rules n h =
    let parts = both (is_in (pos 2, rules.diameter) n) (nat_abs n % 2 == 0) h in
    record { range = from_in (pos 2, rules.diameter) n parts.0; even = from_zero (nat_abs n % 2) parts.1 }

size_tests : (rules : Rules) (n : ℤ) → IsSize rules n → is_size rules.diameter n ≡ true
size_tests rules n h =
    joined (is_in (pos 2, rules.diameter) n) (nat_abs n % 2 == 0) (to_in (pos 2, rules.diameter) n h.range) (to_zero (nat_abs n % 2) h.even)

-- the test says whether a size is one that the rules allow
pub size_tested : (rules : Rules) (n : ℤ) (b : Bool) → b ≡ is_size rules.diameter n → IsTrue b ↔ IsSize rules n
size_tested rules n b e = (λ h. size_by_test rules n (sym e ∙ h), λ h. e ∙ size_tests rules n h)

-- ---- faults
-- if none is found, the first test holds, and the others find none
passed : (b : Bool) (rest : Option RuleFault) (fault : RuleFault) → (if b then rest else Some fault) ≡ None → (b ≡ true) × (rest ≡ None)
passed true rest fault h = (refl, h)
passed false rest fault h = absurd (none fault h)
  where
    none : (fault : RuleFault) → ¬ (Some fault ≡ None)
    none fault h = cc

pub in_range : (n : Numbers) → rule_fault n ≡ None → AreNumbersInRange n
in_range n h =
    let width = passed (is_in sides n.width) _ _ h in
    let height = passed (is_in sides n.height) _ _ width.1 in
    let diameter = passed (is_size n.width n.diameter && int_le n.diameter n.height) _ _ height.1 in
    let speed = passed (is_in speed_limits n.speed_limit) _ _ diameter.1 in
    let rounds = passed (is_in round_limits n.round_limit) _ _ speed.1 in
    let end = passed (is_in ends n.end) _ _ rounds.1 in
    let fits = both (is_size n.width n.diameter) (int_le n.diameter n.height) diameter.0 in
    let size = both (is_in (pos 2, n.width) n.diameter) (nat_abs n.diameter % 2 == 0) fits.0 in
    record {
      width = from_in sides n.width width.0;
      height = from_in sides n.height height.0;
      diameter = from_in (pos 2, n.width) n.diameter size.0;
      diameter_in_height = from_le n.diameter n.height fits.1;
      diameter_even = from_zero (nat_abs n.diameter % 2) size.1;
      speed_limit = from_in speed_limits n.speed_limit speed.0;
      round_limit = from_in round_limits n.round_limit rounds.0;
      end = from_in ends n.end end.0;
    }

pub no_fault : (n : Numbers) → AreNumbersInRange n → rule_fault n ≡ None
no_fault n h = grind (arith, ints, h.width, h.height, h.diameter, h.diameter_in_height, h.diameter_even, h.speed_limit, h.round_limit, h.end)

-- no fault, by the tests in their order
pub no_fault_by_tests : (n : Numbers) → is_in sides n.width ≡ true → is_in sides n.height ≡ true →
    (is_size n.width n.diameter && int_le n.diameter n.height) ≡ true → is_in speed_limits n.speed_limit ≡ true →
    is_in round_limits n.round_limit ≡ true → is_in ends n.end ≡ true → rule_fault n ≡ None
no_fault_by_tests n a b c d e f = simp (a, b, c, d, e, f)
