-- A line that is kept byte by byte.
use Rattle.std.proofs.Common.{◌≡◌, ℕ, zero, suc, ◌+◌, ◌-◌, ◌^◌, ◌<◌, ◌≤◌, List, [], ◌∷◌, ◌++◌, append-nil, append_assoc, length, length-append, take, drop, get_or, slice_set, take-append-drop, sym, ap, ◌∙◌, subst, refl, arith}
use Rattle.std.specs.Prelude.{◌≢◌, min}
use Rattle.std.proofs.lemmas.Bool.{eq-eqb, ne_eqb}
use Rattle.std.proofs.lemmas.List.{length-take-le, take_more, take_more_set}
use Rattle.report_audit.specs.Compared.{text_of, newlines}
use Rattle.report_audit.specs.Place.{PlaceData, place_of, in_line}
use Rattle.report_audit.proofs.Lengths.{head_and_rest}
use Rattle.report_audit.proofs.Linewise.{take_long}
use Rattle.report_audit.proofs.Newlines.{newlines_none, newlines_second, no_newline, text_more, text_clear}
use Rattle.report_audit.proofs.Placed.{take_again, newline_passes, other_passes}

-- ---- one byte more
one_longer : (xs : List ℕ) (b : ℕ) → length (xs ++ b ∷ []) ≡ length xs + 1
one_longer xs b = length-append xs (b ∷ [])

pub pushed : (bytes now : List ℕ) (size b : ℕ) → size < 128 → length bytes ≡ 128 → take size bytes ≡ now →
    take (size + 1) (slice_set bytes size b) ≡ take 128 (now ++ b ∷ [])
pushed bytes now size b lt all e =
    let count : length now ≡ size = sym (ap length e) ∙ length-take-le size bytes (omega arith) in
    let more = one_longer now b in
    take_more_set bytes size b (omega arith) ∙ ap (λ (l : List ℕ). l ++ b ∷ []) e
    ∙ sym (take_long 128 (now ++ b ∷ []) (omega arith))

front : (n : ℕ) (xs ys : List ℕ) → length xs ≡ n → take n (xs ++ ys) ≡ xs
front zero [] ys e = refl
front zero (x ∷ xs) ys e = absurd (let e : suc (length xs) ≡ 0 = e in omega arith)
front (suc n) [] ys e = absurd (let e : 0 ≡ suc n = e in omega arith)
front (suc n) (x ∷ xs) ys e =
    ap (λ (l : List ℕ). x ∷ l) (front n xs ys (let e : suc (length xs) ≡ suc n = e in omega arith))

pub full : (bytes now : List ℕ) (size b : ℕ) → 128 ≤ size → size ≤ 128 → length bytes ≡ 128 → take size bytes ≡ now →
    now ≡ take 128 (now ++ b ∷ [])
full bytes now size b ge le all e =
    let count : length now ≡ size = sym (ap length e) ∙ length-take-le size bytes (omega arith) in
    let all' : length now ≡ 128 = omega arith in
    sym (front 128 now (b ∷ []) all')

-- ---- the place after a byte
pub passes_newline : (before : List ℕ) (b sum : ℕ) (line : List ℕ) (inside now : PlaceData) → inside ≡ now →
    now ≡ place_of before → b ≡ 10 → sum ≡ min (inside.lines + 1) (2 ^ 128 - 1) → line ≡ [] →
    ◌≡◌ {A = PlaceData} (record { lines = sum; line = line }) (place_of (before ++ b ∷ []))
passes_newline before b sum line inside now view is newline e none =
    let lines : sum ≡ min ((place_of before).lines + 1) (2 ^ 128 - 1) =
    e ∙ ap (λ (p : PlaceData). min (p.lines + 1) (2 ^ 128 - 1)) (view ∙ is) in
    let here : ◌≡◌ {A = PlaceData} (record { lines = sum; line = line })
    (record { lines = min ((place_of before).lines + 1) (2 ^ 128 - 1); line = [] }) =
    λ i. record { lines = lines i; line = none i } in
    here ∙ newline_passes before b (eq-eqb b 10 newline)

pub passes_other : (before : List ℕ) (b : ℕ) (line : List ℕ) (inside now : PlaceData) → inside ≡ now →
    now ≡ place_of before → b ≢ 10 → line ≡ take 128 (inside.line ++ b ∷ []) →
    ◌≡◌ {A = PlaceData} (record { lines = inside.lines; line = line }) (place_of (before ++ b ∷ []))
passes_other before b line inside now view is other e =
    let lines : inside.lines ≡ (place_of before).lines = ap (λ (p : PlaceData). p.lines) (view ∙ is) in
    let longer : line ≡ take 128 ((place_of before).line ++ b ∷ []) =
    e ∙ ap (λ (p : PlaceData). take 128 (p.line ++ b ∷ [])) (view ∙ is) in
    let here : ◌≡◌ {A = PlaceData} (record { lines = inside.lines; line = line })
    (record { lines = (place_of before).lines; line = take 128 ((place_of before).line ++ b ∷ []) }) =
    λ i. record { lines = lines i; line = longer i } in
    here ∙ other_passes before b (ne_eqb b 10 other)

-- ---- bytes one after another
pub one_more : (before bytes : List ℕ) (at : ℕ) → at < length bytes →
    (before ++ take at bytes) ++ get_or bytes at 0 ∷ [] ≡ before ++ take (at + 1) bytes
one_more before bytes at lt =
    append_assoc before (take at bytes) (get_or bytes at 0 ∷ [])
    ∙ ap (λ (l : List ℕ). before ++ l) (sym (take_more bytes at 0 lt))

pub still_clear : (bytes : List ℕ) (at : ℕ) → at < length bytes → newlines (take at bytes) ≡ 0 →
    get_or bytes at 0 ≢ 10 → newlines (take (at + 1) bytes) ≡ 0
still_clear bytes at lt none other =
    ap newlines (take_more bytes at 0 lt)
    ∙ newlines_none (take at bytes) (get_or bytes at 0 ∷ []) none (no_newline (get_or bytes at 0) (ne_eqb (get_or bytes at 0) 10 other))

pub line_grows : (old bytes line new : List ℕ) (at : ℕ) → at < length bytes → line ≡ take 128 (old ++ take at bytes) →
    new ≡ take 128 (line ++ get_or bytes at 0 ∷ []) → new ≡ take 128 (old ++ take (at + 1) bytes)
line_grows old bytes line new at lt is e =
    e ∙ ap (λ (l : List ℕ). take 128 (l ++ get_or bytes at 0 ∷ [])) is
    ∙ take_again 128 (old ++ take at bytes) (get_or bytes at 0 ∷ [])
    ∙ ap (take 128) (one_more old bytes at lt)

-- if the line ends
pub line_ends : (bytes : List ℕ) (at : ℕ) → at < length bytes → newlines (take at bytes) ≡ 0 → get_or bytes at 0 ≡ 10 →
    (text_of bytes ≡ take at bytes) × (0 < newlines bytes)
line_ends bytes at lt none newline =
    let rest : List ℕ = 10 ∷ drop (at + 1) bytes in
    let tail : drop at bytes ≡ rest =
    head_and_rest bytes at lt ∙ ap (λ (b : ℕ). b ∷ drop (at + 1) bytes) newline in
    let whole : take at bytes ++ rest ≡ bytes =
    sym (ap (λ (l : List ℕ). take at bytes ++ l) tail) ∙ take-append-drop at bytes in
    let text : text_of (take at bytes ++ rest) ≡ take at bytes =
    text_more (take at bytes) rest none ∙ append-nil (take at bytes) in (
      sym (ap text_of whole) ∙ text,
      subst (λ (l : List ℕ). 0 < newlines l) whole (newlines_second (take at bytes) rest (omega arith)),
    )

pub in_line_ended : (old inside : PlaceData) (bytes : List ℕ) (at : ℕ) → inside.lines ≡ old.lines →
    inside.line ≡ take 128 (old.line ++ take at bytes) → text_of bytes ≡ take at bytes → inside ≡ in_line old bytes
in_line_ended old inside bytes at lines line text =
    let longer : inside.line ≡ take 128 (old.line ++ text_of bytes) =
    line ∙ sym (ap (λ (l : List ℕ). take 128 (old.line ++ l)) text) in
    λ i. record { lines = lines i; line = longer i }

pub whole_line : (bytes : List ℕ) (at : ℕ) → length bytes ≤ at → newlines (take at bytes) ≡ 0 →
    (text_of bytes ≡ take at bytes) × (newlines bytes ≡ 0)
whole_line bytes at le none =
    let all : take at bytes ≡ bytes = take_long at bytes le in
    let clear : newlines bytes ≡ 0 = sym (ap newlines all) ∙ none in
    (text_clear bytes clear ∙ sym all, clear)
