-- Neither text is a prefix of the other.
use Rattle.std.proofs.Common.{◌≡◌, inl, inr, ℕ, List, ◌++◌, slice_get, Some, refl, sym, ap, ◌∙◌, arith}
use Rattle.std.specs.Prelude.{codes}
use Rattle.std.proofs.lemmas.Option.{same_Some}
use Rattle.worked_laws.specs.Texts.{hit_line}
use Rattle.worked_outputs.proofs.beginnings.no_other_run_begins_otherwise.Goals as goal

-- a text that begins with a 3 is none that begins with a 4
differ : (three four : List ℕ) → slice_get three 0 ≡ Some 51 → slice_get four 0 ≡ Some 52 → three ≡ four → ⊥
differ three four one other same =
    unlike 51 52 refl refl (same_Some 51 52 (sym one ∙ (ap (λ (text : List ℕ). slice_get text 0) same ∙ other)))
  where
    unlike : (m n : ℕ) → m ≡ 51 → n ≡ 52 → m ≡ n → ⊥
    unlike m n h k e = omega arith

pub returns : goal.returns
returns c words others a b bytes rest one other alike x y =
    elim (c.any_two_runs_agree.ensures.agree words others a b bytes hit_line (codes "4" ++ rest) one other alike x y) [
      | inl h ↦ differ hit_line ((codes "4" ++ rest) ++ h.0) refl refl h.1
      | inr h ↦ differ (hit_line ++ h.0) (codes "4" ++ rest) refl refl (sym h.1)
    ]
