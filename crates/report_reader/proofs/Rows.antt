-- Rows of fields are read back from their text.
use Rattle.std.proofs.Common.{◌≡◌, ◌≢◌, ℕ, suc, ◌^◌, ◌<◌, ◌≤◌, ℤ, pos, negsuc, true, false, List, [], ◌∷◌, ◌++◌, map, append_assoc, ap, ◌∙◌, refl, arith}
use Rattle.std.specs.Prelude.{◌==◌, ◌&&◌, decimal, flat_map, ⊤, Bool, if◌then◌else◌, neg_ℤ}
use Rattle.std.specs.Fmt.{signed_decimal}
use Rattle.std.specs.List.{join_with_byte, onto_first}
use Rattle.std.specs.Int.Signed.{mag}
use Rattle.std.specs.Char.{digit_value}
use Rattle.std.specs.Str.{bytes_eq}
use Rattle.std.specs.Str.Parse.{AllDigits, IsNumeral, digits_value, without_leading_plus}
use Rattle.std.proofs.lemmas.Bool.{eq-eqb, ne_eqb, false≢true}
use Rattle.std.proofs.lemmas.Fmt.{decimal_is_IsNumeral_wide}
use Rattle.std.proofs.lemmas.Str.Parse.{digit_from_value, without_leading_plus_none}
use Rattle.std.proofs.lemmas.List.Splits.{slice_split-cons_yes, slice_split-cons_no}
use Rattle.text_lines.specs.Lines.{line_of}
use Rattle.report_reader.specs.Reader.{parts_at, fields_by_line, number_in, signed_in}

-- ---- texts without a byte
abbrev pub Lacks : ℕ → List ℕ → Type 0
Lacks c [] = ⊤
Lacks c (b ∷ bs) = ((b == c) ≡ false) × Lacks c bs

both_lack : (c : ℕ) (xs ys : List ℕ) → Lacks c xs → Lacks c ys → Lacks c (xs ++ ys)
both_lack c [] ys h k = k
both_lack c (x ∷ xs) ys h k = (h.0, both_lack c xs ys h.1 k)

whole_part : (c : ℕ) (xs : List ℕ) → Lacks c xs → parts_at c xs ≡ xs ∷ []
whole_part c [] h = refl
whole_part c (x ∷ xs) h =
    slice_split-cons_no (λ b. b == c) x xs h.0 ∙ ap (onto_first x) (whole_part c xs h.1)

first_part : (c : ℕ) (xs rest : List ℕ) → Lacks c xs → parts_at c (xs ++ c ∷ rest) ≡ xs ∷ parts_at c rest
first_part c [] rest h = slice_split-cons_yes (λ b. b == c) c rest (eq-eqb c c refl)
first_part c (x ∷ xs) rest h =
    slice_split-cons_no (λ b. b == c) x (xs ++ c ∷ rest) h.0 ∙ ap (onto_first x) (first_part c xs rest h.1)

-- ---- rows
-- a field has no space and no newline
pub record IsPlain (field : List ℕ) : Type 0 where
  pub spaces : Lacks 32 field
  pub newlines : Lacks 10 field

abbrev pub ArePlain : List (List ℕ) → Type 0
ArePlain [] = ⊤
ArePlain (x ∷ xs) = IsPlain x × ArePlain xs

-- a row has a field
abbrev pub IsRow : List (List ℕ) → Type 0
IsRow [] = ⊥
IsRow (x ∷ xs) = IsPlain x × ArePlain xs

abbrev pub AreRows : List (List (List ℕ)) → Type 0
AreRows [] = ⊤
AreRows (row ∷ rows) = IsRow row × AreRows rows

pub both_rows : (a b : List (List (List ℕ))) → AreRows a → AreRows b → AreRows (a ++ b)
both_rows [] b h k = k
both_rows (row ∷ rows) b h k = (h.0, both_rows rows b h.1 k)

fields_back : (x : List ℕ) (xs : List (List ℕ)) → IsPlain x → ArePlain xs → parts_at 32 (join_with_byte 32 (x ∷ xs)) ≡ x ∷ xs
fields_back x [] h k = whole_part 32 x h.spaces
fields_back x (y ∷ ys) h k =
    first_part 32 x (join_with_byte 32 (y ∷ ys)) h.spaces ∙ ap (λ (l : List (List ℕ)). x ∷ l) (fields_back y ys k.0 k.1)

row_back : (row : List (List ℕ)) → IsRow row → parts_at 32 (join_with_byte 32 row) ≡ row
row_back [] h = absurd h
row_back (x ∷ xs) h = fields_back x xs h.0 h.1

fields_lack : (x : List ℕ) (xs : List (List ℕ)) → IsPlain x → ArePlain xs → Lacks 10 (join_with_byte 32 (x ∷ xs))
fields_lack x [] h k = h.newlines
fields_lack x (y ∷ ys) h k =
    both_lack 10 x (32 ∷ join_with_byte 32 (y ∷ ys)) h.newlines (refl, fields_lack y ys k.0 k.1)

row_lacks : (row : List (List ℕ)) → IsRow row → Lacks 10 (join_with_byte 32 row)
row_lacks [] h = absurd h
row_lacks (x ∷ xs) h = fields_lack x xs h.0 h.1

-- what is read behind the last newline
abbrev pub last_row : List (List (List ℕ))
last_row = ([] ∷ []) ∷ []

pub rows_back : (rows : List (List (List ℕ))) → AreRows rows → fields_by_line (flat_map line_of rows) ≡ rows ++ last_row
rows_back [] h = refl
rows_back (row ∷ rows) h =
    let text : List ℕ = join_with_byte 32 row in
    let rest : List ℕ = flat_map line_of rows in
    let split : parts_at 10 ((text ++ 10 ∷ []) ++ rest) ≡ text ∷ parts_at 10 rest =
    ap (parts_at 10) (append_assoc text (10 ∷ []) rest) ∙ first_part 10 text rest (row_lacks row h.0) in
    ap (map (parts_at 32)) split ∙ (λ i. row_back row h.0 i ∷ rows_back rows h.1 i)

-- ---- words
abbrev pub plain_byte : Bool → Bool → Bool → Bool
plain_byte true newline rest = false
plain_byte false true rest = false
plain_byte false false rest = rest

abbrev pub is_plain : List ℕ → Bool
is_plain [] = true
is_plain (b ∷ bs) = plain_byte (b == 32) (b == 10) (is_plain bs)

pub word_plain : (word : List ℕ) → is_plain word ≡ true → IsPlain word
word_plain [] e = record { spaces = tt; newlines = tt }
word_plain (b ∷ bs) e = by_tests (b == 32) (b == 10) refl refl (λ k. word_plain bs k) e
  where
    by_tests : (s n : Bool) → (b == 32) ≡ s → (b == 10) ≡ n → (is_plain bs ≡ true → IsPlain bs) →
        plain_byte s n (is_plain bs) ≡ true → IsPlain (b ∷ bs)
    by_tests true n space newline more k = absurd (false≢true k)
    by_tests false true space newline more k = absurd (false≢true k)
    by_tests false false space newline more k =
        let rest = more k in
        record { spaces = (space, rest.spaces); newlines = (newline, rest.newlines) }

-- ---- numbers
digit_apart : (d c : ℕ) → digit_value d < 10 → (48 ≤ d → d ≤ 57 → d ≢ c) → (d == c) ≡ false
digit_apart d c h apart =
    let range = digit_from_value d h in
    ne_eqb d c (apart (omega (arith, range)) (omega (arith, range)))

digits_lack : (c : ℕ) (ds : List ℕ) → ((d : ℕ) → 48 ≤ d → d ≤ 57 → d ≢ c) → AllDigits 10 ds → Lacks c ds
digits_lack c [] apart h = tt
digits_lack c (d ∷ ds) apart h = (digit_apart d c h.0 (apart d), digits_lack c ds apart h.1)

digits_plain : (ds : List ℕ) → AllDigits 10 ds → IsPlain ds
digits_plain ds h = record {
  spaces = digits_lack 32 ds (λ d low high. omega arith) h;
  newlines = digits_lack 10 ds (λ d low high. omega arith) h;
}

pub decimal_plain : (n : ℕ) → n < 10 ^ 64 → IsPlain (decimal n)
decimal_plain n h = let is = decimal_is_IsNumeral_wide n h in digits_plain (decimal n) is.0.1

pub decimal_back : (n : ℕ) → n < 10 ^ 64 → number_in (decimal n) ≡ n
decimal_back n h = (decimal_is_IsNumeral_wide n h).1

pub signed_plain : (z : ℤ) → mag z < 2 ^ 63 → IsPlain (signed_decimal z)
signed_plain (pos n) h = decimal_plain n (omega arith)
signed_plain (negsuc n) h =
    let is = decimal_plain (suc n) (omega arith) in
    record { spaces = (refl, is.spaces); newlines = (refl, is.newlines) }

digits_signed : (ds : List ℕ) → IsNumeral 10 ds → signed_in ds ≡ pos (digits_value 10 ds)
digits_signed [] h = absurd (omega (arith, h.0))
digits_signed (d ∷ ds) h =
    let minus = digit_apart d 45 h.1.0 (λ low high. omega arith) in
    let range = digit_from_value d h.1.0 in
    let plus : without_leading_plus (d ∷ ds) ≡ d ∷ ds =
    without_leading_plus_none (d ∷ ds) (λ (e : d ≡ 43). omega (arith, range)) in
    ap (λ (t : Bool). if t then neg_ℤ (pos (digits_value 10 (if t then ds else without_leading_plus (d ∷ ds))))
    else pos (digits_value 10 (if t then ds else without_leading_plus (d ∷ ds)))) minus
    ∙ ap (λ (l : List ℕ). pos (digits_value 10 l)) plus

pub signed_back : (z : ℤ) → mag z < 2 ^ 63 → signed_in (signed_decimal z) ≡ z
signed_back (pos n) h =
    let is = decimal_is_IsNumeral_wide n (omega arith) in digits_signed (decimal n) is.0 ∙ ap pos is.1
signed_back (negsuc n) h = ap (λ (m : ℕ). neg_ℤ (pos m)) (decimal_back (suc n) (omega arith))

-- a number is no word that begins with a letter
no_word : (ds : List ℕ) (b : ℕ) (bs : List ℕ) → IsNumeral 10 ds → 58 ≤ b → bytes_eq ds (b ∷ bs) ≡ false
no_word [] b bs h letter = absurd (omega (arith, h.0))
no_word (d ∷ ds) b bs h letter =
    ap (λ (t : Bool). t && bytes_eq ds bs) (digit_apart d b h.1.0 (λ low high. omega arith))

pub number_no_word : (n b : ℕ) (bs : List ℕ) → n < 10 ^ 64 → 58 ≤ b → bytes_eq (decimal n) (b ∷ bs) ≡ false
number_no_word n b bs h letter = no_word (decimal n) b bs (decimal_is_IsNumeral_wide n h).0 letter
