-- The verdict, given the line that a comparison has reached.
use Rattle.std.proofs.Common.{◌≡◌, ◌⊎◌, inl, inr, ℕ, ◌+◌, ◌-◌, ◌^◌, ◌<◌, ◌≤◌, List, [], ◌∷◌, ◌++◌, append-nil, append_assoc, length, take, slice_get, option_map, Option, Some, None, sym, ap, ◌∙◌, subst, refl, arith}
use Rattle.std.specs.Prelude.{min}
use Rattle.std.specs.Io.KnownBytes.{Consumes, IsAtEnd}
use Rattle.report_audit.specs.Parting.{all_left}
use Rattle.report_audit.specs.Compared.{lines_of, text_of, newlines, Part, HasShortLines, IsVerdict, Compares, LeavesNone}
use Rattle.report_audit.specs.Place.{PlaceData, open_line, place_in, last_line, some_line, IsSame, IsLonger, IsWrong}
use Rattle.report_audit.specs.Comparing.{Differ}
use Rattle.report_audit.specs.declared.verdict.Verdict.{Verdict}
use Rattle.report_audit.specs.declared.verdict.Verdict.TheVariants.{Same, Line}
use Rattle.report_audit.proofs.Linewise.{first_wrong, take_long}
use Rattle.report_audit.proofs.Newlines.{open_clear, newlines_second, text_clear, text_ended, first_line, line_there, lines_counted}

counted : (n m : ℕ) → min n m < m → min n m ≡ n
counted n m lt = omega arith

-- a text that goes on after some bytes parts from one that parts from them
parts_still : (other more left : List ℕ) → 0 < length other → Part other left → Part (other ++ more) left
parts_still [] more left some part = absurd (let some : 0 < 0 = some in omega arith)
parts_still (b ∷ other) more [] some part = tt
parts_still (b ∷ other) more (c ∷ left) some part = part

parts_from_none : (other : List ℕ) → 0 < length other → Part other []
parts_from_none [] some = absurd (let some : 0 < 0 = some in omega arith)
parts_from_none (b ∷ other) some = tt

some_behind : (xs ys zs : List ℕ) → 0 < length ys → 0 < length (xs ++ (ys ++ zs))
some_behind [] [] zs some = absurd (let some : 0 < 0 = some in omega arith)
some_behind [] (y ∷ ys) zs some = omega arith
some_behind (x ∷ xs) ys zs some = omega arith

-- ---- a line that is wrong
-- what is known of the line in which bytes are
record IsThere (text agreed told : List ℕ) : Type 0 where
  pub line : option_map text_of (slice_get (lines_of text) (newlines agreed)) ≡ Some (text_of told)
  pub short : take 128 (text_of told) ≡ text_of told

there : (agreed rest : List ℕ) → 0 < length (open_line agreed ++ rest) → HasShortLines (agreed ++ rest) →
    IsThere (agreed ++ rest) agreed (open_line agreed ++ rest)
there agreed rest some short =
    let told : List ℕ = open_line agreed ++ rest in
    let first = first_line told some in
    let at : slice_get (lines_of (agreed ++ rest)) (newlines agreed) ≡ Some first.0 = line_there agreed rest ∙ first.1 in
    let few : length (text_of told) ≤ 128 =
    subst (λ (l : List ℕ). length l ≤ 128) first.2 (short (newlines agreed) first.0 at) in
    record {
      line = ap (λ (o : Option (List ℕ)). option_map text_of o) at ∙ ap Some first.2;
      short = take_long 128 (text_of told) few;
    }

-- a line that has ended, or isn't told further
text_alike : (line other more : List ℕ) → (0 < newlines other) ⊎ (more ≡ []) →
    text_of ((line ++ other) ++ more) ≡ text_of (line ++ other)
text_alike line other more (inl lt) = text_ended (line ++ other) more (newlines_second line other lt)
text_alike line other more (inr none) =
    ap (λ (l : List ℕ). text_of ((line ++ other) ++ l)) none ∙ ap text_of (append-nil (line ++ other))

-- the verdict on bytes that agree and then differ
wrong : (agreed other more left : List ℕ) (v : Verdict) → IsWrong (place_in agreed other) v → 0 < length other →
    Part other left → (0 < newlines other) ⊎ (more ≡ []) → HasShortLines ((agreed ++ other) ++ more) →
    IsVerdict ((agreed ++ other) ++ more) (agreed ++ left) v
wrong agreed other more left v is some part ended short =
    let n : ℕ = newlines agreed in
    let whole : (agreed ++ other) ++ more ≡ agreed ++ (other ++ more) = append_assoc agreed other more in
    let behind : (open_line agreed ++ other) ++ more ≡ open_line agreed ++ (other ++ more) =
    append_assoc (open_line agreed) other more in
    let alike : text_of ((open_line agreed ++ other) ++ more) ≡ text_of (open_line agreed ++ other) =
    text_alike (open_line agreed) other more ended in
    let text : text_of (open_line agreed ++ (other ++ more)) ≡ text_of (open_line agreed ++ other) =
    sym (ap text_of behind) ∙ alike in
    let at = there agreed (other ++ more) (some_behind (open_line agreed) other more some)
    (subst HasShortLines whole short) in
    let line : take 128 (text_of (open_line agreed ++ other)) ≡ text_of (open_line agreed ++ (other ++ more)) =
    ap (take 128) (sym text) ∙ at.short in
    let count : min n (2 ^ 128 - 1) ≡ n = counted n (2 ^ 128 - 1) is.0 in
    let expected : Some (take 128 (text_of (open_line agreed ++ other)))
    ≡ option_map text_of (slice_get (lines_of (agreed ++ (other ++ more))) n) =
    ap Some line ∙ sym at.line in
    let verdict : v ≡ Line (n + 1) (Some (take 128 (text_of (open_line agreed ++ other)))) =
    is.1 ∙ ap (λ (k : ℕ). Line (k + 1) (Some (take 128 (text_of (open_line agreed ++ other))))) count in
    let first = first_wrong agreed (other ++ more) left (parts_still other more left some part) in
    subst (λ (l : List ℕ). IsVerdict l (agreed ++ left) v) (sym whole)
    (subst (IsVerdict (agreed ++ (other ++ more)) (agreed ++ left)) (sym verdict) (n, refl, first, expected))

no_lines_left : (p : PlaceData) (v : Verdict) (left : List ℕ) → IsWrong p v → LeavesNone v left
no_lines_left p v left is = subst (λ (w : Verdict). LeavesNone w left) (sym is.1) tt

pub wrong_compares : (start : Option (List ℕ)) (ahead : List ℕ) (left : Option (List ℕ)) (agreed other more : List ℕ)
    (v : Verdict) → IsWrong (place_in agreed other) v → Differ other (all_left ahead left) →
    (0 < newlines other) ⊎ (more ≡ []) → Consumes start (all_left ahead left) agreed →
    HasShortLines ((agreed ++ other) ++ more) → Compares ((agreed ++ other) ++ more) start left v
wrong_compares None ahead None agreed other more v is differ ended took short =
    (agreed ++ [], wrong agreed other more [] v is differ (parts_from_none other differ) ended short)
wrong_compares None ahead (Some left) agreed other more v is differ ended took short =
    (agreed ++ (ahead ++ left), wrong agreed other more (ahead ++ left) v is differ.0 differ.1 ended short)
wrong_compares (Some claimed) ahead None agreed other more v is differ ended took short = absurd took
wrong_compares (Some claimed) ahead (Some left) agreed other more v is differ ended took short = (
  subst (λ (l : List ℕ). IsVerdict ((agreed ++ other) ++ more) l v) (sym took)
      (wrong agreed other more (ahead ++ left) v is differ.0 differ.1 ended short),
  no_lines_left (place_in agreed other) v left is,
)

-- ---- a claimed report that goes on
parts_from_end : (left : List ℕ) → 0 < length left → Part [] left
parts_from_end [] some = absurd (let some : 0 < 0 = some in omega arith)
parts_from_end (c ∷ left) some = tt

some_line_is : (xs : List ℕ) → 0 < length xs → some_line xs ≡ Some xs
some_line_is [] some = absurd (let some : 0 < 0 = some in omega arith)
some_line_is (x ∷ xs) some = refl

-- the line that would follow
next_there : (agreed rest : List ℕ) → rest ≡ open_line agreed → HasShortLines (agreed ++ []) →
    some_line (take 128 (text_of (open_line agreed ++ []))) ≡ option_map text_of (slice_get (lines_of (agreed ++ [])) (newlines agreed))
next_there agreed [] none short =
    let end : open_line agreed ++ [] ≡ [] = append-nil (open_line agreed) ∙ sym none in
    ap (λ (l : List ℕ). some_line (take 128 (text_of l))) end
    ∙ sym (ap (λ (o : Option (List ℕ)). option_map text_of o)
    (line_there agreed [] ∙ ap (λ (l : List ℕ). slice_get (lines_of l) 0) end))
next_there agreed (b ∷ rest) is short =
    let same : open_line agreed ++ [] ≡ b ∷ rest = append-nil (open_line agreed) ∙ sym is in
    let some : 0 < length (open_line agreed ++ []) = subst (λ (l : List ℕ). 0 < length l) (sym same) (omega arith) in
    let at = there agreed [] some short in
    let clear : text_of (open_line agreed ++ []) ≡ b ∷ rest =
    ap text_of (append-nil (open_line agreed)) ∙ text_clear (open_line agreed) (open_clear agreed) ∙ sym is in
    let bytes : 0 < length (text_of (open_line agreed ++ [])) =
    subst (λ (l : List ℕ). 0 < length l) (sym clear) (omega arith) in
    ap some_line at.short ∙ some_line_is (text_of (open_line agreed ++ [])) bytes ∙ sym at.line

longer : (agreed left : List ℕ) (v : Verdict) → IsLonger (place_in agreed []) v → 0 < length left →
    HasShortLines (agreed ++ []) → IsVerdict (agreed ++ []) (agreed ++ left) v
longer agreed left v is some short =
    let n : ℕ = newlines agreed in
    let count : min n (2 ^ 128 - 1) ≡ n = counted n (2 ^ 128 - 1) is.0 in
    let line : Option (List ℕ) = some_line (take 128 (text_of (open_line agreed ++ []))) in
    let verdict : v ≡ Line (n + 1) line = is.1 ∙ ap (λ (k : ℕ). Line (k + 1) line) count in
    subst (IsVerdict (agreed ++ []) (agreed ++ left)) (sym verdict)
    (n, refl, first_wrong agreed [] left (parts_from_end left some), next_there agreed (open_line agreed) refl short)

-- the report as it was told, if nothing in it differs
whole_told : (agreed other more : List ℕ) → other ≡ [] → more ≡ [] → (agreed ++ other) ++ more ≡ agreed ++ []
whole_told agreed other more none end =
    ap (λ (l : List ℕ). (agreed ++ other) ++ l) end ∙ append-nil (agreed ++ other)
    ∙ ap (λ (l : List ℕ). agreed ++ l) none

longer_line : (p : PlaceData) (v : Verdict) (left : List ℕ) → IsLonger p v → LeavesNone v left
longer_line p v left is = subst (λ (w : Verdict). LeavesNone w left) (sym is.1) tt

some_ahead : (ahead left : List ℕ) → 0 < length ahead → 0 < length (ahead ++ left)
some_ahead [] left some = absurd (let some : 0 < 0 = some in omega arith)
some_ahead (b ∷ ahead) left some = omega arith

still_longer : (start : Option (List ℕ)) (ahead : List ℕ) (left : Option (List ℕ)) (agreed : List ℕ) (v : Verdict) →
    IsLonger (place_in agreed []) v → 0 < length ahead → Consumes start (all_left ahead left) agreed →
    HasShortLines (agreed ++ []) → Compares (agreed ++ []) start left v
still_longer None ahead left agreed v is some took short =
    (agreed ++ (10 ∷ []), longer agreed (10 ∷ []) v is (omega arith) short)
still_longer (Some claimed) ahead None agreed v is some took short = absurd took
still_longer (Some claimed) ahead (Some left) agreed v is some took short = (
  subst (λ (l : List ℕ). IsVerdict (agreed ++ []) l v) (sym took)
      (longer agreed (ahead ++ left) v is (some_ahead ahead left some) short),
  longer_line (place_in agreed []) v left is,
)

pub longer_compares : (start : Option (List ℕ)) (ahead : List ℕ) (left : Option (List ℕ)) (agreed other more : List ℕ)
    (v : Verdict) → IsLonger (place_in agreed other) v → other ≡ [] → more ≡ [] → 0 < length ahead →
    Consumes start (all_left ahead left) agreed → HasShortLines ((agreed ++ other) ++ more) →
    Compares ((agreed ++ other) ++ more) start left v
longer_compares start ahead left agreed other more v is none end some took short =
    let whole = whole_told agreed other more none end in
    subst (λ (l : List ℕ). Compares l start left v) (sym whole)
    (still_longer start ahead left agreed v (subst (λ (l : List ℕ). IsLonger (place_in agreed l) v) none is) some took
    (subst HasShortLines whole short))

-- ---- a claimed report that is the report
last_taken : (xs : List ℕ) → last_line (take 128 xs) ≡ last_line xs
last_taken [] = refl
last_taken (x ∷ xs) = refl

same : (agreed : List ℕ) (v : Verdict) → IsSame (place_in agreed []) v → v ≡ Same (length (lines_of (agreed ++ [])))
same agreed v is =
    let n : ℕ = newlines agreed in
    let line : List ℕ = take 128 (text_of (open_line agreed ++ [])) in
    let count : min n (2 ^ 128 - 1) ≡ n = counted n (2 ^ 128 - 1) is.0 in
    let clear : text_of (open_line agreed ++ []) ≡ open_line agreed =
    ap text_of (append-nil (open_line agreed)) ∙ text_clear (open_line agreed) (open_clear agreed) in
    let last : last_line line ≡ last_line (open_line agreed) =
    last_taken (text_of (open_line agreed ++ [])) ∙ ap last_line clear in
    let lines : min n (2 ^ 128 - 1) + last_line line ≡ length (lines_of (agreed ++ [])) =
    ap (λ (k : ℕ). k + last_line line) count ∙ ap (λ (k : ℕ). n + k) last ∙ sym (lines_counted agreed)
    ∙ sym (ap (λ (l : List ℕ). length (lines_of l)) (append-nil agreed)) in
    is.1 ∙ ap Same lines

none_behind : (ahead left : List ℕ) → ahead ++ left ≡ [] → left ≡ []
none_behind [] left e = e
none_behind (b ∷ ahead) left e = absurd (let e : b ∷ (ahead ++ left) ≡ [] = e in cc)

still_same : (start : Option (List ℕ)) (ahead : List ℕ) (left : Option (List ℕ)) (agreed : List ℕ) (v : Verdict) →
    IsSame (place_in agreed []) v → IsAtEnd (all_left ahead left) → Consumes start (all_left ahead left) agreed →
    Compares (agreed ++ []) start left v
still_same None ahead left agreed v is ended took =
    (agreed ++ [], subst (IsVerdict (agreed ++ []) (agreed ++ [])) (sym (same agreed v is)) (refl, refl))
still_same (Some claimed) ahead None agreed v is ended took = absurd took
still_same (Some claimed) ahead (Some left) agreed v is ended took =
    let whole : claimed ≡ agreed ++ [] = took ∙ ap (λ (l : List ℕ). agreed ++ l) ended in
    subst (Compares (agreed ++ []) (Some claimed) (Some left)) (sym (same agreed v is))
    ((whole, refl), none_behind ahead left ended)

pub same_compares : (start : Option (List ℕ)) (ahead : List ℕ) (left : Option (List ℕ)) (agreed other more : List ℕ)
    (v : Verdict) → IsSame (place_in agreed other) v → other ≡ [] → more ≡ [] → IsAtEnd (all_left ahead left) →
    Consumes start (all_left ahead left) agreed → Compares ((agreed ++ other) ++ more) start left v
same_compares start ahead left agreed other more v is none end ended took =
    let whole = whole_told agreed other more none end in
    subst (λ (l : List ℕ). Compares l start left v) (sym whole)
    (still_same start ahead left agreed v (subst (λ (l : List ℕ). IsSame (place_in agreed l) v) none is) ended took)
