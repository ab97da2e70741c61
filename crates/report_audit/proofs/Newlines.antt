-- Newlines, and the line after the last one.
use Rattle.std.proofs.Common.{◌≡◌, ◌≢◌, ◌⊎◌, inl, inr, ℕ, suc, ◌+◌, ◌<◌, Bool, true, false, List, [], ◌∷◌, ◌++◌, append-nil, append_assoc, length, take, drop, slice_get, Some, sym, ap, ◌∙◌, subst, refl, arith}
use Rattle.std.specs.Prelude.{if◌then◌else◌, ◌==◌}
use Rattle.std.proofs.lemmas.Bool.{ne_eqb}
use Rattle.report_audit.specs.Lines.{line_length}
use Rattle.report_audit.specs.Compared.{lines_of, grown, text_length, text_of, newlines}
use Rattle.report_audit.specs.Place.{open_line, last_line}
use Rattle.report_audit.proofs.Linewise.{lines_split}

-- ---- how many newlines
sum_none : (a b c : ℕ) → c ≡ a + b → a ≡ 0 → b ≡ 0 → c ≡ 0
sum_none a b c e ea eb = omega arith

sum_first : (a b c : ℕ) → c ≡ a + b → 0 < a → 0 < c
sum_first a b c e lt = omega arith

sum_second : (a b c : ℕ) → c ≡ a + b → 0 < b → 0 < c
sum_second a b c e lt = omega arith

none_or_some : (n : ℕ) → (n ≡ 0) ⊎ (0 < n)
none_or_some n = grind arith

not_none : (n : ℕ) → 0 < n → n ≢ 0
not_none n lt = λ e. absurd (omega arith)

more_than_none : (n : ℕ) → 0 < n → (n == 0) ≡ false
more_than_none n lt = ne_eqb n 0 (not_none n lt)

pub newlines_add : (xs ys : List ℕ) → newlines (xs ++ ys) ≡ newlines xs + newlines ys
newlines_add [] ys = omega arith
newlines_add (b ∷ xs) ys = by_test (b == 10) (newlines_add xs ys)
  where
    by_test : (t : Bool) → newlines (xs ++ ys) ≡ newlines xs + newlines ys →
        (if t then suc (newlines (xs ++ ys)) else newlines (xs ++ ys))
        ≡ (if t then suc (newlines xs) else newlines xs) + newlines ys
    by_test true e = omega arith
    by_test false e = e

pub newlines_none : (xs ys : List ℕ) → newlines xs ≡ 0 → newlines ys ≡ 0 → newlines (xs ++ ys) ≡ 0
newlines_none xs ys ex ey = sum_none (newlines xs) (newlines ys) (newlines (xs ++ ys)) (newlines_add xs ys) ex ey

pub newlines_second : (xs ys : List ℕ) → 0 < newlines ys → 0 < newlines (xs ++ ys)
newlines_second xs ys lt = sum_second (newlines xs) (newlines ys) (newlines (xs ++ ys)) (newlines_add xs ys) lt

pub newlines_first : (xs ys : List ℕ) → 0 < newlines xs → 0 < newlines (xs ++ ys)
newlines_first xs ys lt = sum_first (newlines xs) (newlines ys) (newlines (xs ++ ys)) (newlines_add xs ys) lt

-- ---- the line after the last
open_none : (ys : List ℕ) → newlines ys ≡ 0 → open_line ys ≡ ys
open_none [] e = refl
open_none (b ∷ ys) e = ap (λ (t : Bool). if t then b ∷ ys else open_line ys) (ap (λ (n : ℕ). n == 0) e)

open_some : (b : ℕ) (ys : List ℕ) → 0 < newlines (b ∷ ys) → open_line (b ∷ ys) ≡ open_line ys
open_some b ys lt =
    ap (λ (t : Bool). if t then b ∷ ys else open_line ys) (more_than_none (newlines (b ∷ ys)) lt)

pub open_more : (xs ys : List ℕ) → newlines ys ≡ 0 → open_line (xs ++ ys) ≡ open_line xs ++ ys
open_more [] ys none = open_none ys none
open_more (b ∷ xs) ys none = elim (none_or_some (newlines (b ∷ xs))) [
  | inl e ↦ open_none (b ∷ (xs ++ ys)) (newlines_none (b ∷ xs) ys e none)
      ∙ sym (ap (λ (l : List ℕ). l ++ ys) (open_none (b ∷ xs) e))
  | inr lt ↦ open_some b (xs ++ ys) (newlines_first (b ∷ xs) ys lt) ∙ open_more xs ys none
      ∙ sym (ap (λ (l : List ℕ). l ++ ys) (open_some b xs lt))
]

pub open_new : (xs ys : List ℕ) → 0 < newlines ys → open_line (xs ++ ys) ≡ open_line ys
open_new [] ys some = refl
open_new (b ∷ xs) ys some = open_some b (xs ++ ys) (newlines_second (b ∷ xs) ys some) ∙ open_new xs ys some

pub open_clear : (xs : List ℕ) → newlines (open_line xs) ≡ 0
open_clear [] = refl
open_clear (b ∷ xs) = elim (none_or_some (newlines (b ∷ xs))) [
  | inl e ↦ ap newlines (open_none (b ∷ xs) e) ∙ e
  | inr lt ↦ ap newlines (open_some b xs lt) ∙ open_clear xs
]

-- a newline ends the line, and any other byte belongs to it
pub one_newline : (b : ℕ) → (b == 10) ≡ true → newlines (b ∷ []) ≡ 1
one_newline b e = ap (λ (t : Bool). if t then 1 else 0) e

pub no_newline : (b : ℕ) → (b == 10) ≡ false → newlines (b ∷ []) ≡ 0
no_newline b e = ap (λ (t : Bool). if t then 1 else 0) e

pub newline_counts : (xs : List ℕ) (b : ℕ) → (b == 10) ≡ true → newlines (xs ++ b ∷ []) ≡ newlines xs + 1
newline_counts xs b e = newlines_add xs (b ∷ []) ∙ ap (λ (n : ℕ). newlines xs + n) (one_newline b e)

pub other_counts_not : (xs : List ℕ) (b : ℕ) → (b == 10) ≡ false → newlines (xs ++ b ∷ []) ≡ newlines xs
other_counts_not xs b e =
    let sum : newlines (xs ++ b ∷ []) ≡ newlines xs + 0 =
    newlines_add xs (b ∷ []) ∙ ap (λ (n : ℕ). newlines xs + n) (no_newline b e) in
    omega arith

pub newline_opens : (xs : List ℕ) (b : ℕ) → (b == 10) ≡ true → open_line (xs ++ b ∷ []) ≡ []
newline_opens xs b e =
    let some : 0 < newlines (b ∷ []) = let one = one_newline b e in omega arith in
    open_new xs (b ∷ []) some ∙ open_some b [] some

pub other_lengthens : (xs : List ℕ) (b : ℕ) → (b == 10) ≡ false → open_line (xs ++ b ∷ []) ≡ open_line xs ++ b ∷ []
other_lengthens xs b e = open_more xs (b ∷ []) (no_newline b e)

-- ---- a line's text
pub text_more : (xs ys : List ℕ) → newlines xs ≡ 0 → text_of (xs ++ ys) ≡ xs ++ text_of ys
text_more [] ys none = refl
text_more (b ∷ xs) ys none = by_test (b == 10) none (λ k. text_more xs ys k)
  where
    by_test : (t : Bool) → (if t then suc (newlines xs) else newlines xs) ≡ 0 →
        (newlines xs ≡ 0 → text_of (xs ++ ys) ≡ xs ++ text_of ys) →
        take (if t then 0 else suc (text_length (xs ++ ys))) (b ∷ (xs ++ ys)) ≡ b ∷ (xs ++ text_of ys)
    by_test true e f = absurd (let none : suc (newlines xs) ≡ 0 = e in omega arith)
    by_test false e f = ap (λ (l : List ℕ). b ∷ l) (f e)

pub text_clear : (xs : List ℕ) → newlines xs ≡ 0 → text_of xs ≡ xs
text_clear xs none = sym (ap text_of (append-nil xs)) ∙ text_more xs [] none ∙ append-nil xs

pub text_ended : (xs ys : List ℕ) → 0 < newlines xs → text_of (xs ++ ys) ≡ text_of xs
text_ended [] ys some = absurd (let some : 0 < 0 = some in omega arith)
text_ended (b ∷ xs) ys some = by_test (b == 10) some (λ k. text_ended xs ys k)
  where
    by_test : (t : Bool) → 0 < (if t then suc (newlines xs) else newlines xs) →
        (0 < newlines xs → text_of (xs ++ ys) ≡ text_of xs) →
        take (if t then 0 else suc (text_length (xs ++ ys))) (b ∷ (xs ++ ys))
        ≡ take (if t then 0 else suc (text_length xs)) (b ∷ xs)
    by_test true e f = refl
    by_test false e f = ap (λ (l : List ℕ). b ∷ l) (f e)

pub size_tells : (bytes : List ℕ) → (text_length bytes < length bytes → 0 < newlines bytes)
size_tells [] lt = absurd (let lt : 0 < 0 = lt in omega arith)
size_tells (b ∷ bs) lt = by_test (b == 10) lt (λ k. size_tells bs k)
  where
    by_test : (t : Bool) → (if t then 0 else suc (text_length bs)) < suc (length bs) →
        (text_length bs < length bs → 0 < newlines bs) → 0 < (if t then suc (newlines bs) else newlines bs)
    by_test true k f = omega arith
    by_test false k f = f (let k : suc (text_length bs) < suc (length bs) = k in omega arith)

-- ---- the first line
abbrev first_of : List (List ℕ) → List ℕ
first_of [] = []
first_of (l ∷ ls) = l

grown_first : (b : ℕ) (ls : List (List ℕ)) → first_of (grown b ls) ≡ b ∷ first_of ls
grown_first b [] = refl
grown_first b (l ∷ ls) = refl

first_text : (xs : List ℕ) → text_of (first_of (lines_of xs)) ≡ text_of xs
first_text [] = refl
first_text (b ∷ bs) = by_test (b == 10) refl (first_text bs)
  where
    by_test : (t : Bool) → (b == 10) ≡ t → text_of (first_of (lines_of bs)) ≡ text_of bs →
        text_of (first_of (lines_of (b ∷ bs))) ≡ text_of (b ∷ bs)
    by_test true e f =
        ap (λ (u : Bool). text_of (first_of (if u then (b ∷ []) ∷ lines_of bs else grown b (lines_of bs)))) e
        ∙ ap (λ (u : Bool). take (if u then 0 else 1) (b ∷ [])) e
        ∙ sym (ap (λ (u : Bool). take (if u then 0 else suc (text_length bs)) (b ∷ bs)) e)
    by_test false e f =
        ap (λ (u : Bool). text_of (first_of (if u then (b ∷ []) ∷ lines_of bs else grown b (lines_of bs)))) e
        ∙ ap text_of (grown_first b (lines_of bs))
        ∙ text_more (b ∷ []) (first_of (lines_of bs)) (no_newline b e)
        ∙ ap (λ (l : List ℕ). b ∷ l) f
        ∙ sym (text_more (b ∷ []) bs (no_newline b e))

first_there : (ls : List (List ℕ)) (l : List ℕ) (rest : List (List ℕ)) → ls ≡ l ∷ rest → slice_get ls 0 ≡ Some (first_of ls)
first_there [] l rest e = absurd (let e : [] ≡ l ∷ rest = e in cc)
first_there (k ∷ ks) l rest e = refl

-- bytes have a first line, and its text is that of the bytes
pub first_line : (xs : List ℕ) → 0 < length xs →
    (l : List ℕ) × (slice_get (lines_of xs) 0 ≡ Some l) × (text_of l ≡ text_of xs)
first_line [] some = absurd (let some : 0 < 0 = some in omega arith)
first_line (b ∷ bs) some =
    (first_of (lines_of (b ∷ bs)), first_there (lines_of (b ∷ bs)) _ _ (lines_split b bs), first_text (b ∷ bs))

-- ---- the line of a number
line_first : (acc : List ℕ) (b : ℕ) (rest : List ℕ) → newlines acc ≡ 0 → (b == 10) ≡ true →
    lines_of (acc ++ (b ∷ rest)) ≡ (acc ++ b ∷ []) ∷ lines_of rest
line_first [] b rest none e =
    ap (λ (t : Bool). if t then (b ∷ []) ∷ lines_of rest else grown b (lines_of rest)) e
line_first (a ∷ acc) b rest none e = by_test (a == 10) none (λ k. line_first acc b rest k e)
  where
    by_test : (t : Bool) → (if t then suc (newlines acc) else newlines acc) ≡ 0 →
        (newlines acc ≡ 0 → lines_of (acc ++ (b ∷ rest)) ≡ (acc ++ b ∷ []) ∷ lines_of rest) →
        (if t then (a ∷ []) ∷ lines_of (acc ++ (b ∷ rest)) else grown a (lines_of (acc ++ (b ∷ rest))))
        ≡ (a ∷ (acc ++ b ∷ [])) ∷ lines_of rest
    by_test true k f = absurd (let none : suc (newlines acc) ≡ 0 = k in omega arith)
    by_test false k f = ap (grown a) (f k)

line_after : (acc xs r : List ℕ) → newlines acc ≡ 0 →
    slice_get (lines_of (acc ++ (xs ++ r))) (newlines xs) ≡ slice_get (lines_of (open_line (acc ++ xs) ++ r)) 0
line_after acc [] r none =
    let same : open_line (acc ++ []) ≡ acc = ap open_line (append-nil acc) ∙ open_none acc none in
    sym (ap (λ (l : List ℕ). slice_get (lines_of (l ++ r)) 0) same)
line_after acc (b ∷ xs) r none = by_test (b == 10) refl (λ k ks. line_after k xs r ks)
  where
    by_test : (t : Bool) → (b == 10) ≡ t →
        ((k : List ℕ) → newlines k ≡ 0 →
        slice_get (lines_of (k ++ (xs ++ r))) (newlines xs) ≡ slice_get (lines_of (open_line (k ++ xs) ++ r)) 0) →
        slice_get (lines_of (acc ++ (b ∷ (xs ++ r)))) (newlines (b ∷ xs))
        ≡ slice_get (lines_of (open_line (acc ++ (b ∷ xs)) ++ r)) 0
    by_test true e f =
        let count : newlines (b ∷ xs) ≡ suc (newlines xs) =
        ap (λ (t : Bool). if t then suc (newlines xs) else newlines xs) e in
        let some : 0 < newlines (b ∷ xs) = omega arith in
        let opened : open_line (acc ++ (b ∷ xs)) ≡ open_line xs = open_new acc (b ∷ xs) some ∙ open_some b xs some in
        ap (λ (n : ℕ). slice_get (lines_of (acc ++ (b ∷ (xs ++ r)))) n) count
        ∙ ap (λ (ls : List (List ℕ)). slice_get ls (suc (newlines xs))) (line_first acc b (xs ++ r) none e)
        ∙ f [] refl
        ∙ sym (ap (λ (l : List ℕ). slice_get (lines_of (l ++ r)) 0) opened)
    by_test false e f =
        let count : newlines (b ∷ xs) ≡ newlines xs =
        ap (λ (t : Bool). if t then suc (newlines xs) else newlines xs) e in
        ap (λ (n : ℕ). slice_get (lines_of (acc ++ (b ∷ (xs ++ r)))) n) count
        ∙ sym (ap (λ (l : List ℕ). slice_get (lines_of l) (newlines xs)) (append_assoc acc (b ∷ []) (xs ++ r)))
        ∙ f (acc ++ b ∷ []) (newlines_none acc (b ∷ []) none (no_newline b e))
        ∙ ap (λ (l : List ℕ). slice_get (lines_of (open_line l ++ r)) 0) (append_assoc acc (b ∷ []) xs)

-- the line that follows this many newlines begins with the bytes after the last of them
pub line_there : (xs r : List ℕ) →
    slice_get (lines_of (xs ++ r)) (newlines xs) ≡ slice_get (lines_of (open_line xs ++ r)) 0
line_there xs r = line_after [] xs r refl

-- ---- how many lines
grown_counts : (b : ℕ) (ls : List (List ℕ)) → 0 < length ls → length (grown b ls) ≡ length ls
grown_counts b [] some = absurd (let some : 0 < 0 = some in omega arith)
grown_counts b (l ∷ ls) some = refl

some_counts : (c : ℕ) (cs : List ℕ) → 0 < length (lines_of (c ∷ cs))
some_counts c cs =
    let e : length (lines_of (c ∷ cs)) ≡ suc (length (lines_of (drop (line_length (c ∷ cs)) (c ∷ cs)))) =
    ap (λ (ls : List (List ℕ)). length ls) (lines_split c cs) in
    omega arith

one_line_more : (l l' n n' k k' : ℕ) → l ≡ suc l' → n ≡ suc n' → k ≡ k' → l' ≡ n' + k' → l ≡ n + k
one_line_more l l' n n' k k' a b c d = omega arith

one_line : (l n k : ℕ) → l ≡ 1 → n ≡ 0 → k ≡ 1 → l ≡ n + k
one_line l n k a b c = omega arith

same_last : (b c : ℕ) (cs : List ℕ) → (newlines (c ∷ cs) ≡ 0) ⊎ (0 < newlines (c ∷ cs)) →
    newlines (b ∷ (c ∷ cs)) ≡ newlines (c ∷ cs) →
    last_line (open_line (b ∷ (c ∷ cs))) ≡ last_line (open_line (c ∷ cs))
same_last b c cs (inl none) count =
    ap last_line (open_none (b ∷ (c ∷ cs)) (count ∙ none)) ∙ sym (ap last_line (open_none (c ∷ cs) none))
same_last b c cs (inr some) count =
    ap last_line (open_some b (c ∷ cs) (subst (λ (n : ℕ). 0 < n) (sym count) some))

pub lines_counted : (xs : List ℕ) → length (lines_of xs) ≡ newlines xs + last_line (open_line xs)
lines_counted [] = refl
lines_counted (b ∷ bs) = by_test (b == 10) refl bs (lines_counted bs)
  where
    by_test : (t : Bool) → (b == 10) ≡ t → (cs : List ℕ) →
        length (lines_of cs) ≡ newlines cs + last_line (open_line cs) →
        length (lines_of (b ∷ cs)) ≡ newlines (b ∷ cs) + last_line (open_line (b ∷ cs))
    by_test true e cs f =
        let count : newlines (b ∷ cs) ≡ suc (newlines cs) =
        ap (λ (t : Bool). if t then suc (newlines cs) else newlines cs) e in
        let some : 0 < newlines (b ∷ cs) = omega arith in
        let opened : last_line (open_line (b ∷ cs)) ≡ last_line (open_line cs) = ap last_line (open_some b cs some) in
        let lines : length (lines_of (b ∷ cs)) ≡ suc (length (lines_of cs)) =
        ap (λ (t : Bool). length (if t then (b ∷ []) ∷ lines_of cs else grown b (lines_of cs))) e in
        one_line_more (length (lines_of (b ∷ cs))) (length (lines_of cs)) (newlines (b ∷ cs)) (newlines cs)
        (last_line (open_line (b ∷ cs))) (last_line (open_line cs)) lines count opened f
    by_test false e [] f =
        let count : newlines (b ∷ []) ≡ 0 = no_newline b e in
        let opened : last_line (open_line (b ∷ [])) ≡ 1 = ap last_line (open_none (b ∷ []) count) in
        let lines : length (lines_of (b ∷ [])) ≡ 1 =
        ap (λ (t : Bool). length (if t then (b ∷ []) ∷ [] else grown b [])) e in
        one_line (length (lines_of (b ∷ []))) (newlines (b ∷ [])) (last_line (open_line (b ∷ []))) lines count opened
    by_test false e (c ∷ cs) f =
        let count : newlines (b ∷ (c ∷ cs)) ≡ newlines (c ∷ cs) =
        ap (λ (t : Bool). if t then suc (newlines (c ∷ cs)) else newlines (c ∷ cs)) e in
        let lines : length (lines_of (b ∷ (c ∷ cs))) ≡ length (lines_of (c ∷ cs)) =
        ap (λ (t : Bool). length (if t then (b ∷ []) ∷ lines_of (c ∷ cs) else grown b (lines_of (c ∷ cs)))) e
        ∙ grown_counts b (lines_of (c ∷ cs)) (some_counts c cs) in
        let last : last_line (open_line (b ∷ (c ∷ cs))) ≡ last_line (open_line (c ∷ cs)) =
        same_last b c cs (none_or_some (newlines (c ∷ cs))) count in
        lines ∙ f ∙ sym (ap (λ (n : ℕ). n + last_line (open_line (b ∷ (c ∷ cs)))) count
        ∙ ap (λ (n : ℕ). newlines (c ∷ cs) + n) last)
