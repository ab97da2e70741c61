-- What was told of some changes, and of more of them.
use Rattle.std.proofs.Common.{◌≡◌, ℕ, zero, suc, List, [], ◌∷◌, ◌++◌, sym, ap, ◌∙◌, subst, refl, arith, Option, Some, None, inl, inr, length, take, drop}
use Rattle.std.proofs.lemmas.Grind.{common_steps}
use Rattle.event_rules.specs.Told.{told, Told, Torn, PrefixTold, IsAwaited, AreAwaited, AwaitsAll}

-- ---- one telling after another
pub told_append : {M C : Type 0} (after : M → C → M) (m : M) (xs : List C) (c : C) →
    told after m (xs ++ c ∷ []) ≡ after (told after m xs) c
told_append after m [] c = refl
told_append after m (x ∷ xs) c = told_append after (after m x) xs c

pub told_more : {M C : Type 0} (after : M → C → M) (old mid new : Option M) (xs : List C) (c : C) →
    Told after old xs mid → Told after mid (c ∷ []) new → Told after old (xs ++ c ∷ []) new
told_more after None mid new xs c h k = tt
told_more after (Some m) None new xs c h k = absurd h
told_more after (Some m) (Some n) None xs c h k = absurd k
told_more after (Some m) (Some n) (Some p) xs c h k =
    k ∙ ap (λ v. after v c) h ∙ sym (told_append after m xs c)

pub told_none : {M C : Type 0} (after : M → C → M) (m : Option M) → Told after m [] m
told_none after None = tt
told_none after (Some m) = refl

-- after some changes were told, the next was refused
pub torn_next : {M C : Type 0} (after : M → C → M) (torn : M → C → M → Type 0)
    (old mid new : Option M) (xs : List C) (c : C) →
    Told after old xs mid → Torn torn mid c new → PrefixTold after torn old (xs ++ c ∷ []) new
torn_next {C = C} after torn old mid new xs c h k = (
  length xs,
  inr (
    mid,
    c,
    [],
    grind (arith, common_steps),
    subst (λ (v : List C). Told after old v mid) (grind (arith, common_steps)) h,
    k,
  ),
)

-- all changes are a prefix of them
pub all_told : {M C : Type 0} (after : M → C → M) (old new : Option M) (xs : List C) →
    Told after old xs new → (n : ℕ) × Told after old (take n xs) new
all_told {C = C} after old new xs h =
    (length xs, subst (λ (v : List C). Told after old v new) (grind (arith, common_steps)) h)

-- ---- prefixes of more changes
pub take_taken : {C : Type 0} (n : ℕ) (us vs : List C) →
    take (length (take n us)) (us ++ vs) ≡ take n us
take_taken zero us vs = refl
take_taken (suc n) [] vs = refl
take_taken (suc n) (u ∷ us) vs = ap (λ v. u ∷ v) (take_taken n us vs)

pub drop_longer : {C : Type 0} (n : ℕ) (us vs : List C) (c : C) (rest : List C) →
    drop n us ≡ c ∷ rest → drop n (us ++ vs) ≡ c ∷ (rest ++ vs)
drop_longer zero us vs c rest e = ap (λ v. v ++ vs) e
drop_longer (suc n) [] vs c rest e = cc
drop_longer (suc n) (u ∷ us) vs c rest e = drop_longer n us vs c rest e

pub take_longer : {C : Type 0} (n : ℕ) (us vs : List C) (c : C) (rest : List C) →
    drop n us ≡ c ∷ rest → take n (us ++ vs) ≡ take n us
take_longer zero us vs c rest e = refl
take_longer (suc n) [] vs c rest e = cc
take_longer (suc n) (u ∷ us) vs c rest e = ap (λ v. u ∷ v) (take_longer n us vs c rest e)

-- a prefix of some changes is one of more
pub whole_longer : {M C : Type 0} (after : M → C → M) (old new : Option M) (xs ys : List C)
    (n : ℕ) → Told after old (take n xs) new →
    (m : ℕ) × Told after old (take m (xs ++ ys)) new
whole_longer {C = C} after old new xs ys n h = (
  length (take n xs),
  subst (λ (v : List C). Told after old v new) (sym (take_taken n xs ys)) h,
)

-- the same, if perhaps the change that follows was refused
pub prefix_longer : {M C : Type 0} (after : M → C → M) (torn : M → C → M → Type 0)
    (old new : Option M) (xs ys : List C) →
    PrefixTold after torn old xs new → PrefixTold after torn old (xs ++ ys) new
prefix_longer {M} {C} after torn old new xs ys h = elim h.1 [
  | inl all ↦
      let longer = whole_longer after old new xs ys h.0 all in
      (longer.0, inl longer.1)
  | inr some ↦ (
    h.0,
    inr (
      some.0,
      some.1,
      some.2 ++ ys,
      drop_longer h.0 xs ys some.1 some.2 some.3,
      subst (λ (v : List C). Told after old v some.0)
          (sym (take_longer h.0 xs ys some.1 some.2 some.3)) some.4,
      some.5,
    ),
  )
]

-- ---- what is awaited
rest_awaited : {M C : Type 0} (after : M → C → M) (awaits : M → C → Type 0) (m : M) (xs ys : List C) →
    AreAwaited after awaits m (xs ++ ys) → AreAwaited after awaits (told after m xs) ys
rest_awaited after awaits m [] ys each = each
rest_awaited after awaits m (x ∷ xs) ys each = rest_awaited after awaits (after m x) xs ys each.1

any_awaited : {M C : Type 0} (after : M → C → M) (awaits : M → C → Type 0) (m : M) (xs : List C) →
    ((n : M) (c : C) → awaits n c) → AreAwaited after awaits m xs
any_awaited after awaits m [] any = tt
any_awaited after awaits m (x ∷ xs) any = (any m x, any_awaited after awaits (after m x) xs any)

-- once some changes were told, those that follow are awaited
pub awaits_rest : {M C : Type 0} (after : M → C → M) (awaits : M → C → Type 0) (old mid : Option M)
    (xs ys : List C) → Told after old xs mid → AwaitsAll after awaits old (xs ++ ys) →
    AwaitsAll after awaits mid ys
awaits_rest after awaits None None xs ys h each = each
awaits_rest after awaits None (Some n) xs ys h each = any_awaited after awaits n ys each
awaits_rest after awaits (Some m) None xs ys h each = absurd h
awaits_rest after awaits (Some m) (Some n) xs ys h each =
    subst (λ v. AreAwaited after awaits v ys) (sym h) (rest_awaited after awaits m xs ys each)

-- and the first of them may be told
pub next_awaited : {M C : Type 0} (after : M → C → M) (awaits : M → C → Type 0) (old mid : Option M)
    (xs : List C) (c : C) (ys : List C) → Told after old xs mid →
    AwaitsAll after awaits old (xs ++ c ∷ ys) → IsAwaited awaits mid c
next_awaited {M = M} after awaits old mid xs c ys h each =
    first_awaited mid (awaits_rest after awaits old mid xs (c ∷ ys) h each)
  where
    first_awaited : (m : Option M) → AwaitsAll after awaits m (c ∷ ys) → IsAwaited awaits m c
    first_awaited None any = tt
    first_awaited (Some m) all = all.0
