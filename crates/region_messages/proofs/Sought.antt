-- The place in a list where a stamp would be, searched from the end on.
use Rattle.std.proofs.Common.{◌≡◌, ◌⊎◌, inl, inr, ℕ, ◌-◌, ◌<◌, ◌≤◌, true, false, List, get_or, length, ap, ◌∙◌, arith}
use Rattle.std.specs.List.Sorted.{IsPartitionedBy}
use Rattle.event_stamps.specs.declared.Stamp.{Stamp}
use Rattle.event_stamps.specs.Ordered.{is_before}
use Rattle.event_stamps.proofs.Counted.{IsPlace}

-- none from a place on is before a stamp
abbrev pub NoneFrom : {A : Type 0} → (A → Stamp) → Stamp → List A → ℕ → Type 0
NoneFrom key t xs n = (k : ℕ) → (d : _) → n ≤ k → k < length xs → is_before (key (get_or xs k d)) t ≡ false

pub none_from_end : {A : Type 0} (key : A → Stamp) (t : Stamp) (xs : List A) → NoneFrom key t xs (length xs)
none_from_end key t xs k d low high = absurd (omega arith)

this_or_later : (n k : ℕ) → n - 1 ≤ k → (k ≡ n - 1) ⊎ (n ≤ k)
this_or_later n k le = grind arith

-- one place less, if the item there isn't before the stamp either
pub none_from_less : {A : Type 0} (key : A → Stamp) (t : Stamp) (xs : List A) (n : ℕ) → NoneFrom key t xs n →
    ((d : A) → is_before (key (get_or xs (n - 1) d)) t ≡ false) → NoneFrom key t xs (n - 1)
none_from_less key t xs n none not k d low high = elim (this_or_later n k low) [
  | inl e ↦ ap (λ i. is_before (key (get_or xs i d)) t) e ∙ not d
  | inr le ↦ none k d le high
]

-- it is found if the item before it is before the stamp, or there is none
pub found_from_end : {A : Type 0} (key : A → Stamp) (t : Stamp) (xs : List A) (n : ℕ) →
    IsPartitionedBy (λ y. is_before (key y) t) xs → NoneFrom key t xs n → 0 < n → n ≤ length xs →
    ((d : A) → is_before (key (get_or xs (n - 1) d)) t ≡ true) → IsPlace key t xs n
found_from_end key t xs n parted none some le before = (
  λ k d low high. parted k (n - 1) d (omega arith) (omega arith) (before d),
  λ k d low high. none k d low high,
)

pub found_at_front : {A : Type 0} (key : A → Stamp) (t : Stamp) (xs : List A) → NoneFrom key t xs 0 →
    IsPlace key t xs 0
found_at_front key t xs none = (λ k d low high. absurd (omega arith), λ k d low high. none k d low high)
