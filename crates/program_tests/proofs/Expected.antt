-- What a sink that wants a text knows of a piece that it may take.
use Rattle.std.proofs.Common.{◌≡◌, ◌≤◌, ℕ, ◌+◌, ◌-◌, List, [], ◌∷◌, ◌++◌, length, take, drop, eqb, Bool, true, Option, Some, append_assoc, append-nil, sym, ap, subst, refl, ◌∙◌}
use Rattle.std.specs.List.{starts_with}
use Rattle.std.proofs.lemmas.Bool.Decides.{Decides-eqb}
use Rattle.std.proofs.lemmas.List.{take-append-drop, length-take-le, length-drop}
use Rattle.std.proofs.lemmas.Slice.Eq.{starts_is}
use Rattle.std.proofs.Math.Seq.{drop-append_seam, take-append-add, take-append_seam, take-length}
use Rattle.report_ports.specs.Ports.{MayTake}
use Rattle.command_words.specs.Words.{settings_of}
use Rattle.program_modes.specs.declared.status.Status.TheVariants.{Done}
use Rattle.program_modes.specs.Answers.{Answers, MayAnswer}
use Rattle.program_modes.specs.Laws.{Begins, PrefixesMayBeAsked}

-- the text goes on with the piece
goes_on : (want piece : List ℕ) (at : ℕ) → MayTake (Begins want) (Some (take at want)) piece →
    (rest : List ℕ) × (want ≡ take at want ++ (piece ++ rest))
goes_on want [] at may = (drop at want, sym (take-append-drop at want))
goes_on want (p ∷ ps) at may =
    let next : Begins want (take at want ++ p ∷ ps) = may (take at want) (p ∷ ps) [] refl (sym (append-nil (p ∷ ps))) (λ e. cc) in
    (next.0, next.1 ∙ append_assoc (take at want) (p ∷ ps) next.0)

-- so what is left of it starts with the piece
pub stands_next : (want seen piece : List ℕ) (at : ℕ) → seen ≡ want → at ≤ length want → MayTake (Begins want) (Some (take at want)) piece →
    (found : Bool) → found ≡ starts_with eqb (take (length seen - at) (drop at seen)) piece → found ≡ true
stands_next want seen piece at same within may found tested =
    let next = goes_on want piece at may in
    let front = take at want in let more = piece ++ next.0 in
    let left : drop at want ≡ more =
    ap (drop at) next.1 ∙ ap (λ n. drop n (front ++ more)) (sym (length-take-le at want within)) ∙ drop-append_seam front more in
    let all : take (length seen - at) (drop at seen) ≡ more =
    ap (λ (v : List ℕ). take (length v - at) (drop at v)) same
    ∙ ap (λ n. take n (drop at want)) (sym (length-drop at want)) ∙ take-length (drop at want) ∙ left in
    (starts_is Decides-eqb (take (length seen - at) (drop at seen)) piece found tested).1 next.0 all

-- and with it the text up to its end was taken
pub takes_next : (want piece : List ℕ) (at : ℕ) → at ≤ length want → MayTake (Begins want) (Some (take at want)) piece →
    take (at + length piece) want ≡ take at want ++ piece
takes_next want piece at within may =
    let next = goes_on want piece at may in
    let front = take at want in let more = piece ++ next.0 in
    ap (take (at + length piece)) next.1
    ∙ ap (λ n. take (n + length piece) (front ++ more)) (sym (length-take-le at want within))
    ∙ take-append-add front more (length piece) ∙ ap (λ (v : List ℕ). front ++ v) (take-append_seam piece next.0)

-- what was written for some words and bytes may be asked for when they come again
pub may_ask : PrefixesMayBeAsked → (words : List (List ℕ)) (scene left text want : List ℕ) (taken : Option (List ℕ)) →
    Answers (settings_of words) (Some scene) (Some []) (Some text) Done → left ≡ scene → want ≡ text → taken ≡ Some [] →
    MayAnswer (settings_of words) (Some left) (Begins want) taken
may_ask law words scene left text want taken answer again same nothing =
    let whole = answer.2 in
    let asked : MayAnswer (settings_of words) (Some scene) (Begins whole.0) (Some []) = law words scene answer.0 whole.0 Done answer.1 whole.1 in
    subst (λ (v : Option (List ℕ)). MayAnswer (settings_of words) (Some left) (Begins want) v) (sym nothing)
    (subst (λ (v : List ℕ). MayAnswer (settings_of words) (Some v) (Begins want) (Some [])) (sym again)
    (subst (λ (v : List ℕ). MayAnswer (settings_of words) (Some scene) (Begins v) (Some [])) (sym (same ∙ whole.2)) asked))
