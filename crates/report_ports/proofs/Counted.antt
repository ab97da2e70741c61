-- A count of faults rises by a failure.
use Rattle.std.proofs.Common.{◌≡◌, ℕ, ◌+◌, ◌-◌, ◌^◌, ◌<◌, ◌≤◌, min, inl, inr, arith}
use Rattle.std.proofs.lemmas.Bool.{cases_lt}
use Rattle.report_ports.specs.Ports.{Rose}

pub rises : (n held after : ℕ) → held ≡ n → held < 2 ^ 64 → after ≡ min (held + 1) (2 ^ 64 - 1) → (n ≤ after) × Rose n after
rises n held after same fits is = elim (cases_lt (held + 1) (2 ^ 64)) [
  | inl lt ↦ (omega arith, inl (omega arith))
  | inr le ↦ (omega arith, inr (omega arith))
]
