-- Members of lists, and lists whose stamps rise.
use Rattle.std.proofs.Common.{◌≡◌, ◌⊎◌, inl, inr, ℕ, zero, suc, ◌<◌, List, [], ◌∷◌, ◌++◌, length, get_or, take, drop, sym, subst, refl, arith}
use Rattle.std.proofs.lemmas.List.{take-append-drop}
use Rattle.event_stamps.specs.declared.Stamp.{Stamp}
use Rattle.event_stamps.specs.Order.{Before}
use Rattle.event_stamps.specs.Ordered.{IsAmong, KeysRiseAfter, KeysRise, RisesFrom, AllBefore, last_key}
use Rattle.event_stamps.proofs.StampOrder.{before_trans, not_before_itself}
use Rattle.event_stamps.proofs.IsBefore.{before_not_before}

-- ---- members
pub among_left : {A : Type 0} (x : A) (xs ys : List A) → IsAmong x xs → IsAmong x (xs ++ ys)
among_left x [] ys h = absurd h
among_left x (z ∷ xs) ys (inl e) = inl e
among_left x (z ∷ xs) ys (inr h) = inr (among_left x xs ys h)

pub among_right : {A : Type 0} (x : A) (xs ys : List A) → IsAmong x ys → IsAmong x (xs ++ ys)
among_right x [] ys h = h
among_right x (z ∷ xs) ys h = inr (among_right x xs ys h)

pub among_either : {A : Type 0} (x : A) (xs ys : List A) → IsAmong x (xs ++ ys) →
    IsAmong x xs ⊎ IsAmong x ys
among_either x [] ys h = inr h
among_either x (z ∷ xs) ys (inl e) = inl (inl e)
among_either x (z ∷ xs) ys (inr h) = elim (among_either x xs ys h) [
  | inl first ↦ inl (inr first)
  | inr second ↦ inr second
]

pub get_or_among : {A : Type 0} (xs : List A) (i : ℕ) (d : A) → i < length xs →
    IsAmong (get_or xs i d) xs
get_or_among [] i d lt = absurd (omega arith)
get_or_among (x ∷ xs) zero d lt = inl refl
get_or_among (x ∷ xs) (suc i) d lt = inr (get_or_among xs i d (omega arith))

-- ---- what rises after a stamp, or from one on
pub rises_tail : {A : Type 0} (key : A → Stamp) (s : Stamp) (xs : List A) → KeysRiseAfter key s xs → KeysRise key xs
rises_tail key s [] r = tt
rises_tail key s (x ∷ xs) r = r.1

pub rises_if_from : {A : Type 0} (key : A → Stamp) (s : Stamp) (xs : List A) → RisesFrom key s xs →
    KeysRise key xs
rises_if_from key s [] r = tt
rises_if_from key s (x ∷ xs) r = r.1

pub from_if_after : {A : Type 0} (key : A → Stamp) (s : Stamp) (xs : List A) → KeysRiseAfter key s xs →
    RisesFrom key s xs
from_if_after key s [] r = tt
from_if_after key s (x ∷ xs) r = (λ less. not_before_itself s (before_trans s (key x) s r.0 less), r.1)

-- what rises from a later stamp on rises after an earlier
pub after_if_from : {A : Type 0} (key : A → Stamp) (s t : Stamp) (xs : List A) → Before s t →
    RisesFrom key t xs → KeysRiseAfter key s xs
after_if_from key s t [] lt r = tt
after_if_from key s t (x ∷ xs) lt r = (before_not_before s (key x) t lt r.0, r.1)

pub after_each : {A : Type 0} (key : A → Stamp) (s : Stamp) (xs : List A) → KeysRise key xs →
    ((x : A) → IsAmong x xs → Before s (key x)) → KeysRiseAfter key s xs
after_each key s [] r each = tt
after_each key s (x ∷ xs) r each = (each x (inl refl), r)

pub among_after : {A : Type 0} (key : A → Stamp) (s : Stamp) (xs : List A) (x : A) → KeysRiseAfter key s xs →
    IsAmong x xs → Before s (key x)
among_after key s [] x r h = absurd h
among_after key s (y ∷ ys) x r (inl e) = subst (λ v. Before s (key v)) (sym e) r.0
among_after key s (y ∷ ys) x r (inr h) =
    before_trans s (key y) (key x) r.0 (among_after key (key y) ys x r.1 h)

pub among_from : {A : Type 0} (key : A → Stamp) (s : Stamp) (xs : List A) (x : A) → RisesFrom key s xs →
    IsAmong x xs → ¬ Before (key x) s
among_from key s [] x r h less = absurd h
among_from key s (y ∷ ys) x r (inl e) less = r.0 (subst (λ v. Before (key v) s) e less)
among_from key s (y ∷ ys) x r (inr h) less =
    r.0 (before_trans (key y) (key x) s (among_after key (key y) ys x r.1 h) less)

-- ---- all before a stamp
pub before_each : {A : Type 0} (key : A → Stamp) (s : Stamp) (xs : List A) →
    ((x : A) → IsAmong x xs → Before (key x) s) → AllBefore key s xs
before_each key s [] each = tt
before_each key s (x ∷ xs) each = (each x (inl refl), before_each key s xs (λ y h. each y (inr h)))

pub among_before : {A : Type 0} (key : A → Stamp) (s : Stamp) (xs : List A) (x : A) → AllBefore key s xs →
    IsAmong x xs → Before (key x) s
among_before key s [] x all h = absurd h
among_before key s (y ∷ ys) x all (inl e) = subst (λ v. Before (key v) s) (sym e) all.0
among_before key s (y ∷ ys) x all (inr h) = among_before key s ys x all.1 h

-- a stamp that the last is before comes after all
before_last : {A : Type 0} (key : A → Stamp) (t s : Stamp) (xs : List A) → KeysRiseAfter key t xs →
    Before (last_key key t xs) s → Before t s × AllBefore key s xs
before_last key t s [] r lt = (lt, tt)
before_last key t s (x ∷ xs) r lt =
    let rest = before_last key (key x) s xs r.1 lt in (before_trans t (key x) s r.0 rest.0, rest)

pub all_before_turn : {A : Type 0} (key : A → Stamp) (f s : Stamp) (xs : List A) → RisesFrom key f xs →
    (xs ≡ []) ⊎ Before (last_key key f xs) s → AllBefore key s xs
all_before_turn key f s [] r turn = tt
all_before_turn key f s (x ∷ xs) r (inl none) = cc
all_before_turn key f s (x ∷ xs) r (inr lt) = before_last key (key x) s xs r.1 lt

pub last_before : {A : Type 0} (key : A → Stamp) (f s : Stamp) (xs : List A) → AllBefore key s xs →
    (xs ≡ []) ⊎ Before (last_key key f xs) s
last_before key f s [] all = inl refl
last_before key f s (x ∷ []) all = inr all.0
last_before key f s (x ∷ y ∷ ys) all = elim (last_before key (key x) s (y ∷ ys) all.1) [
  | inl none ↦ cc
  | inr lt ↦ inr lt
]

-- ---- joined lists, and what is left of one
pub last_joined : {A : Type 0} (key : A → Stamp) (s : Stamp) (xs : List A) (y : A) (ys : List A) →
    last_key key s (xs ++ y ∷ ys) ≡ last_key key (key y) ys
last_joined key s [] y ys = refl
last_joined key s (x ∷ xs) y ys = last_joined key (key x) xs y ys

after_joined : {A : Type 0} (key : A → Stamp) (s t : Stamp) (xs ys : List A) → KeysRiseAfter key s xs →
    Before s t → AllBefore key t xs → RisesFrom key t ys → KeysRiseAfter key s (xs ++ ys)
after_joined key s t [] ys r lt all more = after_if_from key s t ys lt more
after_joined key s t (x ∷ xs) ys r lt all more = (r.0, after_joined key (key x) t xs ys r.1 all.0 all.1 more)

-- if the first are before a stamp and the second rise from it on, both together rise
pub rises_joined : {A : Type 0} (key : A → Stamp) (t : Stamp) (xs ys : List A) → KeysRise key xs →
    AllBefore key t xs → RisesFrom key t ys → KeysRise key (xs ++ ys)
rises_joined key t [] ys r all more = rises_if_from key t ys more
rises_joined key t (x ∷ xs) ys r all more = after_joined key (key x) t xs ys r all.0 all.1 more

pub from_joined : {A : Type 0} (key : A → Stamp) (f t : Stamp) (xs ys : List A) → RisesFrom key f xs →
    AllBefore key t xs → RisesFrom key t ys → RisesFrom key f ys → RisesFrom key f (xs ++ ys)
from_joined key f t [] ys r all more late = late
from_joined key f t (x ∷ xs) ys r all more late = (r.0, rises_joined key t (x ∷ xs) ys r.1 all more)

after_first : {A : Type 0} (key : A → Stamp) (s : Stamp) (xs ys : List A) → KeysRiseAfter key s (xs ++ ys) →
    KeysRiseAfter key s xs
after_first key s [] ys r = tt
after_first key s (x ∷ xs) ys r = (r.0, after_first key (key x) xs ys r.1)

pub rises_first : {A : Type 0} (key : A → Stamp) (xs ys : List A) → KeysRise key (xs ++ ys) → KeysRise key xs
rises_first key [] ys r = tt
rises_first key (x ∷ xs) ys r = after_first key (key x) xs ys r

pub from_first : {A : Type 0} (key : A → Stamp) (f : Stamp) (xs ys : List A) → RisesFrom key f (xs ++ ys) →
    RisesFrom key f xs
from_first key f [] ys r = tt
from_first key f (x ∷ xs) ys r = (r.0, after_first key (key x) xs ys r.1)

pub rises_take : {A : Type 0} (key : A → Stamp) (n : ℕ) (xs : List A) → KeysRise key xs → KeysRise key (take n xs)
rises_take key n xs r =
    rises_first key (take n xs) (drop n xs) (subst (KeysRise key) (sym (take-append-drop n xs)) r)

pub rises_drop : {A : Type 0} (key : A → Stamp) (n : ℕ) (xs : List A) → KeysRise key xs → KeysRise key (drop n xs)
rises_drop key zero xs r = r
rises_drop key (suc n) [] r = tt
rises_drop key (suc n) (x ∷ xs) r = rises_drop key n xs (rises_tail key (key x) xs r)
