-- The place in a list where a stamp would stand.
use Rattle.std.proofs.Common.{◌≡◌, ℕ, zero, suc, true, false, List, [], ◌∷◌, ◌++◌, get_or, take, drop, sym, ap, ◌∙◌, refl, arith}
use Rattle.std.proofs.lemmas.List.{append_cancel_left, take-append-drop}
use Rattle.std.specs.List.Sorted.{IsPartitionedBy, IsPartitionPoint}
use Rattle.event_stamps.specs.declared.Stamp.{Stamp}
use Rattle.event_stamps.specs.Ordered.{is_before, KeysRise, keyed_below, keyed_from}
use Rattle.event_stamps.proofs.StampOrder.{before_trans}
use Rattle.event_stamps.proofs.IsBefore.{is_before_true, before_from_true}
use Rattle.event_stamps.proofs.Rising.{get_or_among, rises_tail, among_after}
use Rattle.event_stamps.proofs.Parts.{split}

pub partitioned : {A : Type 0} (key : A → Stamp) (t : Stamp) (xs : List A) → KeysRise key xs →
    IsPartitionedBy (λ x. is_before (key x) t) xs
partitioned key t [] r i j d le lt e = absurd (omega arith)
partitioned key t (x ∷ xs) r zero zero d le lt e = e
partitioned key t (x ∷ xs) r zero (suc j) d le lt e =
    let later = get_or xs j d in
    is_before_true (key x) t (before_trans (key x) (key later) t
    (among_after key (key x) xs later r (get_or_among xs j d (omega arith)))
    (before_from_true (key later) t e))
partitioned key t (x ∷ xs) r (suc i) zero d le lt e = absurd (omega arith)
partitioned key t (x ∷ xs) r (suc i) (suc j) d le lt e =
    partitioned key t xs (rises_tail key (key x) xs r) i j d (omega arith) (omega arith) e

-- all before that place are before the stamp, and none from it on
abbrev pub IsPlace : {A : Type 0} → (A → Stamp) → Stamp → List A → ℕ → Type 0
IsPlace key t xs n =
    IsPartitionPoint (λ x. is_before (key x) t ≡ true) (λ x. is_before (key x) t ≡ false) xs n

-- one place further on
next_place : {A : Type 0} (key : A → Stamp) (t : Stamp) (x : A) (xs : List A) (n : ℕ) →
    IsPlace key t (x ∷ xs) (suc n) → IsPlace key t xs n
next_place key t x xs n h = (
  λ k d low high. h.0 (suc k) d (omega arith) (omega arith),
  λ k d low high. h.1 (suc k) d (omega arith) (omega arith),
)

pub counted_below : {A : Type 0} (key : A → Stamp) (t : Stamp) (xs : List A) (n : ℕ) → IsPlace key t xs n →
    take n xs ≡ keyed_below key t xs
counted_below key t [] zero h = refl
counted_below key t [] (suc n) h = refl
counted_below key t (x ∷ xs) zero h =
    let first : is_before (key x) t ≡ false = h.1 0 x (omega arith) (omega arith) in
    rw first refl
counted_below key t (x ∷ xs) (suc n) h =
    let first : is_before (key x) t ≡ true = h.0 0 x (omega arith) (omega arith) in
    rw first (ap (λ v. x ∷ v) (counted_below key t xs n (next_place key t x xs n h)))

pub counted_from : {A : Type 0} (key : A → Stamp) (t : Stamp) (xs : List A) (n : ℕ) → IsPlace key t xs n →
    drop n xs ≡ keyed_from key t xs
counted_from key t xs n h = append_cancel_left (take n xs) (drop n xs) (keyed_from key t xs)
    (take-append-drop n xs ∙ sym (split key xs t)
    ∙ ap (λ v. v ++ keyed_from key t xs) (sym (counted_below key t xs n h)))
