-- Numbers rounded to as many bits as 32-bit products need, and what they tell.
use Rattle.std.specs.Prelude.{ℕ, ℤ, ◌+◌, ◌-◌, ◌*◌, ◌/◌, ◌%◌, ◌^◌, ◌<◌, ◌≤◌, max, pos, nat_abs, ◌≤ℤ◌, ◌<ℤ◌}
use Rattle.std.specs.Int.{w64, cast_unsigned, leading_zeros}
use Rattle.fixed_motion.specs.declared.rules.Rules.{Rules}

-- how many bits a number has beyond this many
abbrev pub bits_past : ℕ → ℤ → ℕ
bits_past bits n = (64 - leading_zeros w64 (cast_unsigned w64 n)) - bits

-- how many bits the speeds of a scene have beyond 14
abbrev pub speed_bits : Rules → ℕ
speed_bits rules = bits_past 14 rules.speed_limit

-- how many bits the places of a scene have beyond 15
abbrev pub place_bits : Rules → ℕ
place_bits rules = max (bits_past 15 rules.width) (bits_past 15 rules.height)

-- the 32 bits of a number of 64 bits from this one on
abbrev pub bits_from : ℕ → ℤ → ℤ
bits_from lowest n = pos ((cast_unsigned w64 n / 2 ^ lowest) % 4294967296)

-- the size of a number less this many bits, rounded down
abbrev pub rounded_down : ℕ → ℤ → ℕ
rounded_down bits n = nat_abs n / 2 ^ bits

-- and rounded up
abbrev pub rounded_up : ℕ → ℤ → ℕ
rounded_up bits n = (nat_abs n + (2 ^ bits - 1)) / 2 ^ bits

-- in rounded numbers the quadratic a s^2 + 2 b s + c of two disks falls, and is negative or has a root
pub record CrossRounded (speeds places : ℕ) (a b c : ℤ) : Type 0 where
  pub nearing : b <ℤ pos 0
  pub crossing : pos 0 ≤ℤ c → rounded_down (2 * speeds) a * rounded_down (2 * places) c
      < rounded_up (speeds + places) b * rounded_up (speeds + places) b

-- numbers of a quadratic that need 32 bits once they are rounded so
pub record FitRounded (speeds places : ℕ) (a b c : ℤ) : Type 0 where
  pub not_negative : pos 0 ≤ℤ a
  pub square : nat_abs a ≤ 2147483648 * 2 ^ (2 * speeds)
  pub closing : nat_abs b ≤ 2147483648 * 2 ^ (speeds + places)
  pub gap : nat_abs c ≤ 2147483648 * 2 ^ (2 * places)
  pub gap_fits : nat_abs c < 9223372036854775808
