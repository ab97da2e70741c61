-- Places as the bits of a word.
use Rattle.std.proofs.Common.{◌≡◌, ◌≢◌, ◌⊎◌, ◌↔◌, inl, inr, ℕ, ◌*◌, ◌%◌, ◌^◌, ◌<◌, arith, refl, sym, subst, ap, ◌∙◌}
use Rattle.std.specs.Prelude.{Bool, true, false, bit_and, bit_or, IsTrue}
use Rattle.std.specs.Int.{w32, bit_at, bit_not}
use Rattle.std.proofs.lemmas.Bool.{false≢true, cases_lt}
use Rattle.std.proofs.lemmas.Nat.Bits.{bit_at-zero, bit_at_or, bit_at_and, bit_at-lt, bit_at_set_same, bit_at_set_other, bit_at_clear_same, bit_at_clear_other, bit_at_above}
use Rattle.cell_lists.proofs.Chaining.{same_or_not}
use mir.Val.{bool_byte}

pub set_place : (bits place : ℕ) (is_one : Bool) (p : ℕ) → place < 32 →
    ((bit_at (bit_or bits (bool_byte is_one * 2 ^ place % 2 ^ 32)) p ≡ 1) ↔ ((bit_at bits p ≡ 1) ⊎ ((p ≡ place) × IsTrue is_one)))
set_place bits place true p lt = elim (same_or_not p place) [
  | inl e ↦ (λ _. inr (e, refl), λ _. subst (λ (n : ℕ). bit_at (bit_or bits (1 * 2 ^ place % 2 ^ 32)) n ≡ 1) (sym e) (bit_at_set_same w32 bits place lt))
  | inr ne ↦ (
    λ h. inl (sym (bit_at_set_other w32 bits place lt p ne) ∙ h),
    λ h. elim h [ inl was ↦ bit_at_set_other w32 bits place lt p ne ∙ was | inr e ↦ absurd (ne e.0) ],
  )
]
set_place bits place false p lt = (λ h. inl (sym same ∙ h), λ h. elim h [ inl was ↦ same ∙ was | inr e ↦ absurd (false≢true e.1) ])
  where
    nothing : 0 * 2 ^ place % 2 ^ 32 ≡ 0
    nothing = omega arith

    none : bit_at (bit_or bits 0) p ≡ bit_at bits p
    none = omega (arith, bit_at_or bits 0 p, bit_at-zero p)

    same : bit_at (bit_or bits (0 * 2 ^ place % 2 ^ 32)) p ≡ bit_at bits p
    same = ap (λ n. bit_at (bit_or bits n) p) nothing ∙ none

pub clear_place : (bits place p : ℕ) → bits < 2 ^ 32 → place < 32 →
    ((bit_at (bit_and bits (bit_not w32 (1 * 2 ^ place % 2 ^ 32))) p ≡ 1) ↔ ((bit_at bits p ≡ 1) × (p ≢ place)))
clear_place bits place p fits lt = (λ h. (was h, λ e. not_there (subst (λ (n : ℕ). bit_at (bit_and bits (bit_not w32 (1 * 2 ^ place % 2 ^ 32))) n ≡ 1) e h)), λ h. bit_at_clear_other w32 bits place lt p (below h.0) h.1 ∙ h.0)
  where
    was : bit_at (bit_and bits (bit_not w32 (1 * 2 ^ place % 2 ^ 32))) p ≡ 1 → bit_at bits p ≡ 1
    was h = omega (arith, h, bit_at_and bits (bit_not w32 (1 * 2 ^ place % 2 ^ 32)) p, bit_at-lt bits p)

    not_there : bit_at (bit_and bits (bit_not w32 (1 * 2 ^ place % 2 ^ 32))) place ≡ 1 → ⊥
    not_there h = absurd (omega (arith, h, bit_at_clear_same w32 bits place lt))

    below : bit_at bits p ≡ 1 → p < 32
    below h = elim (cases_lt p 32) [ inl less ↦ less | inr more ↦ absurd (omega (arith, h, bit_at_above bits 32 p fits more)) ]
