-- Texts with the mark between them are parted into them again.
use Rattle.std.proofs.Common.{◌≡◌, ℕ, inl, inr, Bool, true, false, List, [], ◌∷◌, ◌++◌, sym, ap, ◌∙◌, subst, refl}
use Rattle.std.specs.Prelude.{if◌then◌else◌, ◌==◌}
use Rattle.std.specs.List.{concat}
use Rattle.std.proofs.lemmas.Bool.{eq-eqb}
use Rattle.report_audit.specs.Parting.{front_of, rest_of}
use Rattle.report_audit.specs.Compared.{lines_of, grown}
use Rattle.report_audit.specs.Laws.{mark, IsMark, AreParted, EndsALine, HaveNoMark, joined, JoinsPart}
use Rattle.report_audit.proofs.Linewise.{lines_split}
use Rattle.report_audit.proofs.Divided.{all_lines, parts_are_lines}

-- ---- the lines of two texts
grown_first : (b : ℕ) (ls ms rest : List (List ℕ)) (l : List ℕ) → ls ≡ l ∷ rest → grown b (ls ++ ms) ≡ grown b ls ++ ms
grown_first b ls ms rest l e =
    ap (λ (k : List (List ℕ)). grown b (k ++ ms)) e ∙ sym (ap (λ (k : List (List ℕ)). grown b k ++ ms) e)

lines_join : (bytes more : List ℕ) → EndsALine bytes → lines_of (bytes ++ more) ≡ lines_of bytes ++ lines_of more
lines_join [] more h = refl
lines_join (b ∷ []) more h =
    let newline : (b == 10) ≡ true = eq-eqb b 10 h in
    ap (λ (t : Bool). if t then (b ∷ []) ∷ lines_of more else grown b (lines_of more)) newline
    ∙ sym (ap (λ (t : Bool). (if t then (b ∷ []) ∷ [] else grown b []) ++ lines_of more) newline)
lines_join (b ∷ c ∷ bs) more h = by_test (b == 10) (lines_join (c ∷ bs) more h)
  where
    by_test : (t : Bool) → lines_of ((c ∷ bs) ++ more) ≡ lines_of (c ∷ bs) ++ lines_of more →
        (if t then (b ∷ []) ∷ lines_of ((c ∷ bs) ++ more) else grown b (lines_of ((c ∷ bs) ++ more)))
        ≡ (if t then (b ∷ []) ∷ lines_of (c ∷ bs) else grown b (lines_of (c ∷ bs))) ++ lines_of more
    by_test true e = ap (λ (ls : List (List ℕ)). (b ∷ []) ∷ ls) e
    by_test false e =
        ap (grown b) e ∙ grown_first b (lines_of (c ∷ bs)) (lines_of more) _ _ (lines_split c bs)

-- ---- the mark
parted_there : (before : List (List ℕ)) (line : List ℕ) (after : List (List ℕ)) (front rest : List ℕ) → HaveNoMark before →
    IsMark line → AreParted (before ++ line ∷ after) front rest → (front ≡ concat before) × (rest ≡ concat after)
parted_there [] line after front rest none is h = elim h [
  | inl there ↦ (there.1, there.2)
  | inr other ↦ absurd (other.0 is)
]
parted_there (l ∷ before) line after front rest none is h = elim h [
  | inl there ↦ absurd (none.0 there.0)
  | inr other ↦
      let more = parted_there before line after other.1.0 rest none.1 is other.1.2 in
      (other.1.1 ∙ ap (λ (k : List ℕ). l ++ k) more.0, more.1)
]

pub joins_part : JoinsPart
joins_part front rest ends none =
    let whole : List ℕ = joined front rest in
    let lines : lines_of whole ≡ lines_of front ++ ((mark ++ 10 ∷ []) ∷ lines_of rest) =
    lines_join front (mark ++ 10 ∷ rest) ends in
    let parted = subst (λ (ls : List (List ℕ)). AreParted ls (front_of whole) (rest_of whole)) lines (parts_are_lines whole) in
    let are = parted_there (lines_of front) (mark ++ 10 ∷ []) (lines_of rest) (front_of whole) (rest_of whole) none (inr refl) parted in
    (are.0 ∙ all_lines front, are.1 ∙ all_lines rest)
