-- The line that a report has reached, after more of it.
use Rattle.std.proofs.Common.{◌≡◌, ℕ, zero, suc, ◌+◌, ◌-◌, ◌^◌, true, false, List, [], ◌∷◌, ◌++◌, append-nil, append_assoc, take, sym, ap, ◌∙◌, refl, arith}
use Rattle.std.specs.Prelude.{◌==◌, min}
use Rattle.report_audit.specs.Compared.{text_of, newlines}
use Rattle.report_audit.specs.Place.{PlaceData, open_line, place_of, place_in, in_line}
use Rattle.report_audit.proofs.Newlines.{newline_counts, other_counts_not, newline_opens, other_lengthens, newlines_none, open_clear, text_more, text_clear}

pub take_again : (n : ℕ) (xs ys : List ℕ) → take n (take n xs ++ ys) ≡ take n (xs ++ ys)
take_again zero xs ys = refl
take_again (suc n) [] ys = refl
take_again (suc n) (x ∷ xs) ys = ap (λ (l : List ℕ). x ∷ l) (take_again n xs ys)

min_twice : (m n k : ℕ) → min (min n m + k) m ≡ min (n + k) m
min_twice m n k = omega arith

pub newline_passes : (before : List ℕ) (b : ℕ) → (b == 10) ≡ true →
    ◌≡◌ {A = PlaceData} (record { lines = min ((place_of before).lines + 1) (2 ^ 128 - 1); line = [] })
    (place_of (before ++ b ∷ []))
newline_passes before b e =
    let lines : min (min (newlines before) (2 ^ 128 - 1) + 1) (2 ^ 128 - 1) ≡ min (newlines (before ++ b ∷ [])) (2 ^ 128 - 1) =
    min_twice (2 ^ 128 - 1) (newlines before) 1
    ∙ sym (ap (λ (n : ℕ). min n (2 ^ 128 - 1)) (newline_counts before b e)) in
    let line : [] ≡ take 128 (open_line (before ++ b ∷ [])) = sym (ap (take 128) (newline_opens before b e)) in
    λ i. record { lines = lines i; line = line i }

pub other_passes : (before : List ℕ) (b : ℕ) → (b == 10) ≡ false →
    ◌≡◌ {A = PlaceData} (record { lines = (place_of before).lines; line = take 128 ((place_of before).line ++ b ∷ []) })
    (place_of (before ++ b ∷ []))
other_passes before b e =
    let lines : min (newlines before) (2 ^ 128 - 1) ≡ min (newlines (before ++ b ∷ [])) (2 ^ 128 - 1) =
    sym (ap (λ (n : ℕ). min n (2 ^ 128 - 1)) (other_counts_not before b e)) in
    let line : take 128 (take 128 (open_line before) ++ b ∷ []) ≡ take 128 (open_line (before ++ b ∷ [])) =
    take_again 128 (open_line before) (b ∷ []) ∙ sym (ap (take 128) (other_lengthens before b e)) in
    λ i. record { lines = lines i; line = line i }

pub in_line_of : (agreed other more : List ℕ) → newlines other ≡ 0 →
    in_line (place_in agreed other) more ≡ place_in agreed (other ++ more)
in_line_of agreed other more none =
    let told : List ℕ = open_line agreed ++ other in
    let clear : newlines told ≡ 0 = newlines_none (open_line agreed) other (open_clear agreed) none in
    let whole : text_of told ++ text_of more ≡ text_of (open_line agreed ++ (other ++ more)) =
    ap (λ (l : List ℕ). l ++ text_of more) (text_clear told clear) ∙ sym (text_more told more clear)
    ∙ ap text_of (append_assoc (open_line agreed) other more) in
    let line : take 128 (take 128 (text_of told) ++ text_of more)
    ≡ take 128 (text_of (open_line agreed ++ (other ++ more))) =
    take_again 128 (text_of told) (text_of more) ∙ ap (take 128) whole in
    λ i. record { lines = min (newlines agreed) (2 ^ 128 - 1); line = line i }

-- if all agrees the line is that of the bytes
pub placed : (agreed : List ℕ) → place_of agreed ≡ place_in agreed []
placed agreed =
    let same : text_of (open_line agreed ++ []) ≡ open_line agreed =
    ap text_of (append-nil (open_line agreed)) ∙ text_clear (open_line agreed) (open_clear agreed) in
    λ i. record { lines = min (newlines agreed) (2 ^ 128 - 1); line = take 128 (sym same i) }

-- a line that differs begins with the bytes that agree
pub in_line_first : (agreed more : List ℕ) → in_line (place_of agreed) more ≡ place_in agreed more
in_line_first agreed more = ap (λ (p : PlaceData). in_line p more) (placed agreed) ∙ in_line_of agreed [] more refl
