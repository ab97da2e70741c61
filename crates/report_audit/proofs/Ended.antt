-- The lines of a report that were told to their ends.
use Rattle.std.proofs.Common.{◌≡◌, ◌⊎◌, inl, inr, ℕ, ◌+◌, List, [], ◌∷◌, ◌++◌, slice_get, Option, Some, None, sym, ap, subst, refl, arith}
use Rattle.std.specs.Io.KnownBytes.{Consumes}
use Rattle.report_audit.specs.declared.agreeing.Course.{Course}
use Rattle.report_audit.specs.declared.agreeing.Course.TheVariants.{Agrees, Differs}
use Rattle.report_audit.specs.Compared.{lines_of, newlines, Part}
use Rattle.report_audit.specs.Comparing.{Differ, IsCourse, HasNoWrongLine}
use Rattle.report_audit.proofs.Linewise.{first_wrong}
use Rattle.report_audit.proofs.Newlines.{newlines_add}

-- if the texts are the same up to a line that hasn't ended
right_before : (agreed other left : List ℕ) → newlines other ≡ 0 → (other ≡ left) ⊎ Part other left →
    HasNoWrongLine (agreed ++ other) (agreed ++ left)
right_before agreed other left none (inl e) =
    λ k lt. ap (λ (l : List ℕ). slice_get (lines_of (agreed ++ l)) k) e
right_before agreed other left none (inr part) = λ k lt.
    let sum : newlines (agreed ++ other) ≡ newlines agreed + newlines other = newlines_add agreed other in
    (first_wrong agreed other left part).1 k (omega arith)

same_or_parts : (left : List ℕ) → ([] ≡ left) ⊎ Part [] left
same_or_parts [] = inl refl
same_or_parts (c ∷ left) = inr tt

-- that is so if no line is known to be wrong
pub none_wrong : (course : Course) (agreed other claimed : List ℕ) (start left : Option (List ℕ)) →
    (course ≡ Agrees) ⊎ (course ≡ Differs) → IsCourse course other left → start ≡ Some claimed →
    Consumes start left agreed → HasNoWrongLine (agreed ++ other) claimed
none_wrong course agreed other claimed start None is at e took =
    absurd (subst (λ (s : Option (List ℕ)). Consumes s None agreed) e took)
none_wrong course agreed other claimed start (Some left) (inl is) at e took =
    let none : other ≡ [] = subst (λ (k : Course). IsCourse k other (Some left)) is at in
    let whole : claimed ≡ agreed ++ left = subst (λ (s : Option (List ℕ)). Consumes s (Some left) agreed) e took in
    subst (HasNoWrongLine (agreed ++ other)) (sym whole) (right_before agreed other left (ap newlines none)
    (subst (λ (l : List ℕ). (l ≡ left) ⊎ Part l left) (sym none) (same_or_parts left)))
none_wrong course agreed other claimed start (Some left) (inr is) at e took =
    let differs : Differ other (Some left) × (newlines other ≡ 0) =
    subst (λ (k : Course). IsCourse k other (Some left)) is at in
    let whole : claimed ≡ agreed ++ left = subst (λ (s : Option (List ℕ)). Consumes s (Some left) agreed) e took in
    subst (HasNoWrongLine (agreed ++ other)) (sym whole)
    (right_before agreed other left differs.1 (inr differs.0.1))
