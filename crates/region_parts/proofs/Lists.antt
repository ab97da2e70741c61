-- Lists whose elements are changed one after another, and the list of entries.
use Rattle.std.proofs.Common.{◌≡◌, ℕ, zero, suc, ◌+◌, ◌<◌, List, [], ◌∷◌, ◌++◌, length, slice_set, get_or, take, drop, map, ap, ◌∙◌, refl, arith}
use Rattle.std.proofs.lemmas.List.{set-get_or, length-map}
use Rattle.event_log.specs.Logged.{Logged, entries_in}

one_more_suc : {A : Type 0} (f : A → A) (xs : List A) (k : ℕ) (d y : A) → k < length xs →
    y ≡ f (get_or xs k d) →
    slice_set (map f (take k xs) ++ drop k xs) k y ≡ map f (take (suc k) xs) ++ drop (suc k) xs
one_more_suc f [] k d y lt is = absurd (omega arith)
one_more_suc f (x ∷ xs) zero d y lt is = ap (λ v. v ∷ xs) is
one_more_suc f (x ∷ xs) (suc k) d y lt is =
    ap (λ v. f x ∷ v) (one_more_suc f xs k d y (omega arith) is)

get_left : {A : Type 0} (f : A → A) (xs : List A) (k : ℕ) (d : A) → k < length xs →
    get_or (map f (take k xs) ++ drop k xs) k d ≡ get_or xs k d
get_left f [] k d lt = absurd (omega arith)
get_left f (x ∷ xs) zero d lt = refl
get_left f (x ∷ xs) (suc k) d lt = get_left f xs k d (omega arith)

-- if the first k are changed, and now the next one
pub one_more : {A : Type 0} (f : A → A) (xs items : List A) (k : ℕ) (d y : A) → k < length xs →
    items ≡ map f (take k xs) ++ drop k xs → y ≡ f (get_or items k d) →
    slice_set items k y ≡ map f (take (k + 1) xs) ++ drop (k + 1) xs
one_more f xs items k d y lt so_far is =
    let next : suc k ≡ k + 1 = omega arith in
    ap (λ v. slice_set v k y) so_far
    ∙ one_more_suc f xs k d y lt (is ∙ ap (λ v. f (get_or v k d)) so_far ∙ ap f (get_left f xs k d lt))
    ∙ ap (λ (n : ℕ). map f (take n xs) ++ drop n xs) next

-- ---- an element that was read by any default
pub read_or : {A : Type 0} (xs : List A) (n : ℕ) (d e : A) → n < length xs → get_or xs n d ≡ get_or xs n e
read_or [] n d e lt = absurd (omega arith)
read_or (x ∷ xs) zero d e lt = refl
read_or (x ∷ xs) (suc n) d e lt = read_or xs n d e (omega arith)

-- is changed
pub item_changed : {A : Type 0} (f : A → A) (xs all : List A) (k : ℕ) (d was now : A) → xs ≡ all →
    was ≡ get_or xs k was → k < length all → now ≡ f was → slice_set xs k now ≡ slice_set all k (f (get_or all k d))
item_changed f xs all k d was now same here lt is =
    ap (λ v. slice_set v k now) same
    ∙ ap (slice_set all k) (is ∙ ap f (here ∙ ap (λ v. get_or v k was) same ∙ read_or all k was d lt))

-- is read
pub item_read : {A : Type 0} (xs all : List A) (k : ℕ) (d was : A) → xs ≡ all → was ≡ get_or xs k was →
    k < length all → was ≡ get_or all k d
item_read xs all k d was same here lt = here ∙ ap (λ v. get_or v k was) same ∙ read_or all k was d lt

-- stays
pub item_kept : {A : Type 0} (xs : List A) (k : ℕ) (was now : A) → was ≡ get_or xs k was → now ≡ was →
    slice_set xs k now ≡ xs
item_kept xs k was now here is = ap (slice_set xs k) (is ∙ here) ∙ set-get_or xs k was

-- ---- a log has as many entries
pub as_many : (log : List Logged) → length (entries_in log) ≡ length log
as_many log = length-map log (λ l. l.0)
