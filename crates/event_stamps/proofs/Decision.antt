-- Facts that are decided.
use Rattle.std.proofs.Common.{◌≡◌, ◌⊎◌, inl, inr, ℕ, arith}

abbrev pub Decision : Type 0 → Type 0
Decision P = P ⊎ ¬ P

pub both : {P Q : Type 0} → Decision P → Decision Q → Decision (P × Q)
both p q = elim p [
  | inl h ↦ elim q [ inl k ↦ inl (h, k) | inr not ↦ inr (λ h. not h.1) ]
  | inr not ↦ inr (λ h. not h.0)
]

pub same_number : (m n : ℕ) → Decision (m ≡ n)
same_number m n = grind arith
