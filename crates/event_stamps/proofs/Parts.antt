-- The part of a list that is before a stamp, and the rest.
use Rattle.std.proofs.Common.{◌≡◌, ◌⊎◌, inl, inr, Bool, true, false, List, [], ◌∷◌, ◌++◌, append-nil, sym, ap, ◌∙◌, subst, refl}
use Rattle.std.specs.Prelude.{if◌then◌else◌}
use Rattle.event_stamps.specs.declared.Stamp.{Stamp}
use Rattle.event_stamps.specs.Order.{Before}
use Rattle.event_stamps.specs.Ordered.{is_before, IsAmong, KeysRise, RisesFrom, AllBefore, last_key, keyed_below, keyed_from}
use Rattle.event_stamps.proofs.StampOrder.{before_decides}
use Rattle.event_stamps.proofs.IsBefore.{is_before_true, is_before_false}
use Rattle.event_stamps.proofs.Rising.{among_left, among_right, among_either, rises_tail, among_from, among_before, last_before, rises_joined, rises_first}

-- ---- the first
pub below_first : {A : Type 0} (key : A → Stamp) (t : Stamp) (x : A) (xs : List A) → Before (key x) t →
    keyed_below key t (x ∷ xs) ≡ x ∷ keyed_below key t xs
below_first key t x xs lt = rw (is_before_true (key x) t lt) refl

pub below_none : {A : Type 0} (key : A → Stamp) (t : Stamp) (x : A) (xs : List A) → ¬ Before (key x) t →
    keyed_below key t (x ∷ xs) ≡ []
below_none key t x xs not = rw (is_before_false (key x) t not) refl

pub from_later : {A : Type 0} (key : A → Stamp) (t : Stamp) (x : A) (xs : List A) → Before (key x) t →
    keyed_from key t (x ∷ xs) ≡ keyed_from key t xs
from_later key t x xs lt = rw (is_before_true (key x) t lt) refl

pub from_here : {A : Type 0} (key : A → Stamp) (t : Stamp) (x : A) (xs : List A) → ¬ Before (key x) t →
    keyed_from key t (x ∷ xs) ≡ x ∷ xs
from_here key t x xs not = rw (is_before_false (key x) t not) refl

-- ---- both parts
pub split : {A : Type 0} (key : A → Stamp) (xs : List A) (t : Stamp) → keyed_below key t xs ++ keyed_from key t xs ≡ xs
split key [] t = refl
split key (x ∷ xs) t = by_test (is_before (key x) t) (split key xs t)
  where
    by_test : (b : Bool) → keyed_below key t xs ++ keyed_from key t xs ≡ xs →
        (if b then x ∷ keyed_below key t xs else []) ++ (if b then keyed_from key t xs else x ∷ xs) ≡ x ∷ xs
    by_test true more = ap (λ v. x ∷ v) more
    by_test false more = refl

pub all_below : {A : Type 0} (key : A → Stamp) (t : Stamp) (xs : List A) → AllBefore key t (keyed_below key t xs)
all_below key t [] = tt
all_below key t (x ∷ xs) = elim (before_decides (key x) t) [
  | inl lt ↦ subst (AllBefore key t) (sym (below_first key t x xs lt)) (lt, all_below key t xs)
  | inr not ↦ subst (AllBefore key t) (sym (below_none key t x xs not)) tt
]

pub rises_below : {A : Type 0} (key : A → Stamp) (t : Stamp) (xs : List A) → KeysRise key xs →
    KeysRise key (keyed_below key t xs)
rises_below key t xs r =
    rises_first key (keyed_below key t xs) (keyed_from key t xs) (subst (KeysRise key) (sym (split key xs t)) r)

pub rises_from : {A : Type 0} (key : A → Stamp) (t : Stamp) (xs : List A) → KeysRise key xs →
    RisesFrom key t (keyed_from key t xs)
rises_from key t [] r = tt
rises_from key t (x ∷ xs) r = elim (before_decides (key x) t) [
  | inl lt ↦ subst (RisesFrom key t) (sym (from_later key t x xs lt))
      (rises_from key t xs (rises_tail key (key x) xs r))
  | inr not ↦ subst (RisesFrom key t) (sym (from_here key t x xs not)) (not, r)
]

-- ---- members
pub below_among : {A : Type 0} (key : A → Stamp) (t : Stamp) (xs : List A) (x : A) →
    IsAmong x (keyed_below key t xs) → IsAmong x xs
below_among key t xs x h = subst (IsAmong x) (split key xs t) (among_left x (keyed_below key t xs) (keyed_from key t xs) h)

pub below_before : {A : Type 0} (key : A → Stamp) (t : Stamp) (xs : List A) (x : A) →
    IsAmong x (keyed_below key t xs) → Before (key x) t
below_before key t xs x h = among_before key t (keyed_below key t xs) x (all_below key t xs) h

pub from_among : {A : Type 0} (key : A → Stamp) (t : Stamp) (xs : List A) (x : A) →
    IsAmong x (keyed_from key t xs) → IsAmong x xs
from_among key t xs x h = subst (IsAmong x) (split key xs t) (among_right x (keyed_below key t xs) (keyed_from key t xs) h)

pub from_after : {A : Type 0} (key : A → Stamp) (t : Stamp) (xs : List A) (x : A) → KeysRise key xs →
    IsAmong x (keyed_from key t xs) → ¬ Before (key x) t
from_after key t xs x r h = among_from key t (keyed_from key t xs) x (rises_from key t xs r) h

pub among_below : {A : Type 0} (key : A → Stamp) (t : Stamp) (xs : List A) (x : A) → KeysRise key xs →
    IsAmong x xs → Before (key x) t → IsAmong x (keyed_below key t xs)
among_below key t xs x r h lt =
    elim (among_either x (keyed_below key t xs) (keyed_from key t xs) (subst (IsAmong x) (sym (split key xs t)) h)) [
      | inl first ↦ first
      | inr second ↦ absurd (from_after key t xs x r second lt)
    ]

-- ---- lists of which one part is all
pub below_nil : {A : Type 0} (key : A → Stamp) (t : Stamp) (xs : List A) →
    ((x : A) → IsAmong x xs → ¬ Before (key x) t) → keyed_below key t xs ≡ []
below_nil key t [] late = refl
below_nil key t (x ∷ xs) late = below_none key t x xs (late x (inl refl))

pub from_whole : {A : Type 0} (key : A → Stamp) (t : Stamp) (xs : List A) →
    ((x : A) → IsAmong x xs → ¬ Before (key x) t) → keyed_from key t xs ≡ xs
from_whole key t [] late = refl
from_whole key t (x ∷ xs) late = from_here key t x xs (late x (inl refl))

pub below_whole : {A : Type 0} (key : A → Stamp) (t : Stamp) (xs : List A) → AllBefore key t xs →
    keyed_below key t xs ≡ xs
below_whole key t [] all = refl
below_whole key t (x ∷ xs) all = below_first key t x xs all.0 ∙ ap (λ v. x ∷ v) (below_whole key t xs all.1)

-- if all stay, the last is before the stamp
pub kept_below : {A : Type 0} (key : A → Stamp) (f t : Stamp) (xs : List A) → keyed_below key t xs ≡ xs →
    (xs ≡ []) ⊎ Before (last_key key f xs) t
kept_below key f t xs same = last_before key f t xs (subst (AllBefore key t) same (all_below key t xs))

-- ---- the first part of one list with the second of another
none_below_from : {A : Type 0} (key : A → Stamp) (t : Stamp) (xs : List A) → keyed_below key t (keyed_from key t xs) ≡ []
none_below_from key t [] = refl
none_below_from key t (x ∷ xs) = elim (before_decides (key x) t) [
  | inl lt ↦ ap (keyed_below key t) (from_later key t x xs lt) ∙ none_below_from key t xs
  | inr not ↦ ap (keyed_below key t) (from_here key t x xs not) ∙ below_none key t x xs not
]

below_joined : {A : Type 0} (key : A → Stamp) (t : Stamp) (xs ys : List A) → AllBefore key t xs →
    keyed_below key t (xs ++ ys) ≡ xs ++ keyed_below key t ys
below_joined key t [] ys all = refl
below_joined key t (x ∷ xs) ys all =
    below_first key t x (xs ++ ys) all.0 ∙ ap (λ v. x ∷ v) (below_joined key t xs ys all.1)

-- before the stamp it is the first
pub below_replaced : {A : Type 0} (key : A → Stamp) (t : Stamp) (a b : List A) →
    keyed_below key t (keyed_below key t a ++ keyed_from key t b) ≡ keyed_below key t a
below_replaced key t a b = below_joined key t (keyed_below key t a) (keyed_from key t b) (all_below key t a)
    ∙ ap (λ v. keyed_below key t a ++ v) (none_below_from key t b) ∙ append-nil (keyed_below key t a)

pub rises_replaced : {A : Type 0} (key : A → Stamp) (t : Stamp) (a b : List A) → KeysRise key (keyed_below key t a) →
    KeysRise key b → KeysRise key (keyed_below key t a ++ keyed_from key t b)
rises_replaced key t a b ra rb =
    rises_joined key t (keyed_below key t a) (keyed_from key t b) ra (all_below key t a) (rises_from key t b rb)

pub among_replaced : {A : Type 0} (key : A → Stamp) (t : Stamp) (a b : List A) (x : A) →
    IsAmong x (keyed_below key t a ++ keyed_from key t b) → IsAmong x a ⊎ IsAmong x b
among_replaced key t a b x h = elim (among_either x (keyed_below key t a) (keyed_from key t b) h) [
  | inl first ↦ inl (below_among key t a x first)
  | inr second ↦ inr (from_among key t b x second)
]

-- ---- a list of which the first part is known
pub first_of_below : {A : Type 0} (key : A → Stamp) (t : Stamp) (x : A) (ys xs : List A) →
    keyed_below key t ys ≡ x ∷ xs → (rest : List A) × (ys ≡ x ∷ rest) × (keyed_below key t rest ≡ xs)
first_of_below key t x [] xs e = cc
first_of_below {A} key t x (y ∷ ys) xs e = by_test (is_before (key y) t) e
  where
    by_test : (b : Bool) → (if b then y ∷ keyed_below key t ys else []) ≡ x ∷ xs →
        (rest : List A) × (y ∷ ys ≡ x ∷ rest) × (keyed_below key t rest ≡ xs)
    by_test true k =
        let first : y ≡ x = cc in
        let rest : keyed_below key t ys ≡ xs = cc in
        (ys, ap (λ v. v ∷ ys) first, rest)
    by_test false k = cc
