-- How much of a piece agrees with a claimed report.
use Rattle.std.proofs.Common.{◌≡◌, ℕ, ◌+◌, ◌<◌, List, [], ◌++◌, append_assoc, length, take, drop, length-drop, take-append-drop, sym, ap, ◌∙◌, subst, refl, arith, Option, Some, None}
use Rattle.std.specs.Io.KnownBytes.{Consumes, IsAtEnd}
use Rattle.report_audit.specs.Parting.{all_left}
use Rattle.report_audit.specs.Compared.{Part}
use Rattle.report_audit.specs.Comparing.{Differ}
use Rattle.report_audit.proofs.Linewise.{agreed_bytes}
use Rattle.report_audit.proofs.Lengths.{head_and_rest}

-- nothing was taken yet
pub none_taken : (left : Option (List ℕ)) → Consumes left left []
none_taken None = tt
none_taken (Some left) = refl

some_left : (piece : List ℕ) (at : ℕ) → at < length piece → 0 < length (drop at piece)
some_left piece at lt = let size = length-drop at piece in omega arith

-- more of the piece agrees
pub agrees_further : (piece tail bytes ahead : List ℕ) (at n : ℕ) (old left : Option (List ℕ)) → tail ≡ drop at piece →
    bytes ≡ ahead → take n tail ≡ take n bytes → Consumes old (all_left ahead left) (take at piece) →
    Consumes old (all_left (drop n ahead) left) (take (at + n) piece)
agrees_further piece tail bytes ahead at n None left e is same took = tt
agrees_further piece tail bytes ahead at n (Some claimed) None e is same took = absurd took
agrees_further piece tail bytes ahead at n (Some claimed) (Some left) e is same took =
    let agreed : take (at + n) piece ≡ take at piece ++ take n ahead =
    agreed_bytes piece tail bytes at n e same ∙ ap (λ (l : List ℕ). take at piece ++ take n l) is in
    let split : ahead ++ left ≡ take n ahead ++ (drop n ahead ++ left) =
    ap (λ (l : List ℕ). l ++ left) (sym (take-append-drop n ahead)) ∙ append_assoc (take n ahead) (drop n ahead) left in
    took ∙ ap (λ (l : List ℕ). take at piece ++ l) split
    ∙ sym (append_assoc (take at piece) (take n ahead) (drop n ahead ++ left))
    ∙ ap (λ (l : List ℕ). l ++ (drop n ahead ++ left)) (sym agreed)

-- the next bytes differ
pub differs_here : (piece tail bytes ahead : List ℕ) (at n : ℕ) (left : Option (List ℕ)) → tail ≡ drop at piece →
    bytes ≡ ahead → n ≡ 0 → at < length piece → 0 < length ahead →
    (n < length bytes → (more : List ℕ) → Part (drop n tail) (drop n bytes ++ more)) →
    Differ (drop at piece) (all_left ahead left)
differs_here piece tail bytes ahead at n None e is none lt some part = some_left piece at lt
differs_here piece tail bytes ahead at n (Some left) e is none lt some part =
    let some' : 0 < length bytes = subst (λ (l : List ℕ). 0 < length l) (sym is) some in
    let parts : Part (drop n tail) (drop n bytes ++ left) = part (omega arith) left in
    let first : Part tail (bytes ++ left) =
    subst (λ (i : ℕ). Part (drop i tail) (drop i bytes ++ left)) none parts in (
      some_left piece at lt,
      subst (λ (l : List ℕ). Part l (ahead ++ left)) e
          (subst (λ (l : List ℕ). Part tail (l ++ left)) is first),
    )

-- the claimed report has ended
pub ended_here : (piece : List ℕ) (at : ℕ) (left : Option (List ℕ)) → at < length piece → IsAtEnd left →
    Differ (drop at piece) left
ended_here piece at None lt ended = some_left piece at lt
ended_here piece at (Some left) lt ended = (
  some_left piece at lt,
  subst (Part (drop at piece)) (sym ended) (subst (λ (l : List ℕ). Part l []) (sym (head_and_rest piece at lt)) tt),
)
