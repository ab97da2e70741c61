-- Firsts and lasts of a property.
use Rattle.std.proofs.Common.{◌≡◌, ◌≢◌, ◌⊎◌, ◌^◌, IfSome, ◌↔◌, ℕ, ◌+◌, ◌-◌, ◌<◌, ◌≤◌, min, List, [], ◌∷◌, ◌++◌, append_assoc, arith, refl, inl, inr, sym, subst}
use Rattle.std.specs.Prelude.{Option, Some, None, IsSome}
use Rattle.std.proofs.lemmas.Bool.{cases_lt, false≢true}
use Rattle.cell_lists.specs.Firsts.{IsFirstOf, IsLastOf, AreAllFrom, lesser_of}

-- ---- walks
-- one past a number, or 0
abbrev pub after_of : Option ℕ → ℕ
after_of None = 0
after_of (Some i) = i + 1

-- whether a number is this one, if there is one
abbrev pub IsBefore : Option ℕ → ℕ → Type 0
IsBefore None i = ⊥
IsBefore (Some p) i = i ≡ p

-- how far numbers of 32 bits may still ascend
abbrev pub ascent : Option ℕ → ℕ
ascent None = 0
ascent (Some i) = 2 ^ 32 - i

pub falls : (P : ℕ → Type 0) (i : ℕ) (o : Option ℕ) → i < 2 ^ 32 → IsFirstOf P (i + 1) o → ascent o < ascent (Some i)
falls P i None lt h = omega arith
falls P i (Some j) lt h = let le : i + 1 ≤ j = h.0 in omega arith

pub last_past : (P : ℕ → Type 0) (last : Option ℕ) (i d : ℕ) → IsFirstOf P (after_of last) (Some i) → d ≤ i → IfSome last (λ p. (p < d) × P p) → IsLastOf P d last
last_past P None i d h le s = λ j lt p. h.2 j (omega arith) (omega arith) p
last_past P (Some q) i d h le s = (s.0, s.1, λ j above lt p. h.2 j (omega arith) (omega arith) p)

-- what is before a first is the last below it
pub second_before : (P : ℕ → Type 0) (last : Option ℕ) (d i : ℕ) → IsFirstOf P (after_of last) (Some i) → IfSome last (λ p. (p < d) × P p) → IsLastOf P i last
second_before P None d i h s = λ j lt p. h.2 j (omega arith) lt p
second_before P (Some q) d i h s = let more : q + 1 ≤ i = h.0 in (omega arith, s.1, λ j above lt p. h.2 j (omega arith) lt p)

pub last_end : (P : ℕ → Type 0) (last : Option ℕ) (d : ℕ) → IsFirstOf P (after_of last) None → IfSome last (λ p. (p < d) × P p) → IsLastOf P d last
last_end P None d h s = λ j lt p. h j (omega arith) p
last_end P (Some q) d h s = (s.0, s.1, λ j above lt p. h j (omega arith) p)

-- what comes right before p leads on to p
pub first_after_last : (P : ℕ → Type 0) (p : ℕ) (last : Option ℕ) → P p → IsLastOf P p last → IsFirstOf P (after_of last) (Some p)
first_after_last P p None holds is = (omega arith, holds, λ j above below h. is j below h)
first_after_last P p (Some q) holds is = let less : q < p = is.0 in (omega arith, holds, λ j above below h. is.2 j (omega arith) below h)

-- only what comes right before p leads on to p
pub head_not_last : (P : ℕ → Type 0) (o : Option ℕ) (p q : ℕ) → P q → q < p → IsFirstOf P 0 o → IfSome o (λ e. ¬ IsBefore (Some p) e)
head_not_last P None p q holds less h = tt
head_not_last P (Some e) p q holds less h = λ same. h.2 q (omega arith) (omega arith) holds

pub next_not_last : (P : ℕ → Type 0) (o : Option ℕ) (p i : ℕ) (last : Option ℕ) → IsLastOf P p last → P i → ¬ IsBefore last i → IsFirstOf P (i + 1) o →
    IfSome o (λ e. ¬ IsBefore (Some p) e)
next_not_last P None p i last is holds other h = tt
next_not_last P (Some e) p i None is holds other h = λ same. let more : i + 1 ≤ e = h.0 in is i (omega arith) holds
next_not_last P (Some e) p i (Some q) is holds other h = λ same. let more : i + 1 ≤ e = h.0 in let less : q < p = is.0 in elim (apart i q other) [
  | inl below ↦ h.2 q (omega arith) (omega arith) is.1
  | inr above ↦ is.2 i above (omega arith) holds
]
  where
    apart : (i q : ℕ) → i ≢ q → (i < q) ⊎ (q < i)
    apart i q ne = grind arith

-- what comes after d isn't what comes before it
pub beyond : (P Q : ℕ → Type 0) (d : ℕ) (last o : Option ℕ) → IsLastOf Q d last → IsFirstOf P (d + 1) o → IfSome o (λ e. ¬ IsBefore last e)
beyond P Q d last None is h = tt
beyond P Q d None (Some e) is h = λ never. never
beyond P Q d (Some p) (Some e) is h = λ same. let more : d + 1 ≤ e = h.0 in let less : p < d = is.0 in absurd (omega arith)

pub none_before : (o : Option ℕ) → IfSome o (λ e. ¬ IsBefore None e)
none_before None = tt
none_before (Some e) = λ never. never

-- a first is one
pub first_one : (P : ℕ → Type 0) (from : ℕ) (o : Option ℕ) → IsFirstOf P from o → IfSome o P
first_one P from None h = tt
first_one P from (Some i) h = h.1

-- there is a first one after d if and only if there is one after d
pub first_there : (P : ℕ → Type 0) (d : ℕ) (o : Option ℕ) → IsFirstOf P (d + 1) o → (IsSome o ↔ ((j : ℕ) × (d < j) × P j))
first_there P d None h = (λ some. absurd (false≢true some), λ x. (let more = x.1 in absurd (h x.0 (omega arith) x.2)))
first_there P d (Some i) h = (λ _. (let more : d + 1 ≤ i = h.0 in (i, omega arith, h.1)), λ _. refl)

-- ---- firsts, where P becomes Q
-- they agree from there on
pub first_kept : (P Q : ℕ → Type 0) (from : ℕ) (o : Option ℕ) → ((j : ℕ) → from ≤ j → (P j ↔ Q j)) → IsFirstOf P from o → IsFirstOf Q from o
first_kept P Q from None same h = λ j le q. h j le ((same j le).1 q)
first_kept P Q from (Some i) same h = (h.0, (same i h.0).0 h.1, λ j le lt q. h.2 j le lt ((same j le).1 q))

-- they agree except at d, and P holds for one before
pub first_before : (P Q : ℕ → Type 0) (d p from : ℕ) (o : Option ℕ) → ((j : ℕ) → j ≢ d → (P j ↔ Q j)) → from ≤ p → p < d → P p → IsFirstOf P from o → IsFirstOf Q from o
first_before P Q d p from None same le lt holds h = absurd (h p le holds)
first_before P Q d p from (Some i) same le lt holds h =
    let most : i ≤ p = least i p (λ less. h.2 p le less holds) in
    (h.0, (same i (omega arith)).0 h.1, λ j above below q. h.2 j above below ((same j (omega arith)).1 q))
  where
    least : (i p : ℕ) → ¬ (p < i) → i ≤ p
    least i p never = grind arith

-- none is before d, and d is one now
pub first_is : (P Q : ℕ → Type 0) (d from : ℕ) → ((j : ℕ) → j ≢ d → (P j ↔ Q j)) → from ≤ d → ((j : ℕ) → from ≤ j → j < d → P j → ⊥) → Q d → IsFirstOf Q from (Some d)
first_is P Q d from same le none holds = (le, holds, λ j above below q. none j above below ((same j (omega arith)).1 q))

-- none is between: the first from there is the first from later on, and the other way round
pub first_later : (P : ℕ → Type 0) (from later : ℕ) (o : Option ℕ) → from ≤ later → ((j : ℕ) → from ≤ j → j < later → P j → ⊥) → IsFirstOf P from o → IsFirstOf P later o
first_later P from later None le none h = λ j above p. h j (omega arith) p
first_later P from later (Some i) le none h =
    (least i later (λ less. none i h.0 less h.1), h.1, λ j above below p. h.2 j (omega arith) below p)
  where
    least : (i n : ℕ) → ¬ (i < n) → n ≤ i
    least i n never = grind arith

pub first_earlier : (P : ℕ → Type 0) (from later : ℕ) (o : Option ℕ) → from ≤ later → ((j : ℕ) → from ≤ j → j < later → P j → ⊥) → IsFirstOf P later o → IsFirstOf P from o
first_earlier P from later None le none h = λ j above p. elim (cases_lt j later) [ inl lt ↦ none j above lt p | inr ge ↦ h j ge p ]
first_earlier P from later (Some i) le none h =
    let low : later ≤ i = h.0 in
    (omega arith, h.1, λ j above below p. elim (cases_lt j later) [ inl lt ↦ none j above lt p | inr ge ↦ h.2 j ge below p ])

-- ---- the first of either
pub first_of_either : (P Q R : ℕ → Type 0) (from : ℕ) (a b : Option ℕ) → ((i : ℕ) → P i → R i) → ((i : ℕ) → Q i → R i) → ((i : ℕ) → R i → P i ⊎ Q i) →
    IsFirstOf P from a → IsFirstOf Q from b → IsFirstOf R from (lesser_of a b)
first_of_either P Q R from None None p_is q_is split ha hb = λ j le r. elim (split j r) [ inl p ↦ ha j le p | inr q ↦ hb j le q ]
first_of_either P Q R from None (Some j) p_is q_is split ha hb =
    (hb.0, q_is j hb.1, λ k le lt r. elim (split k r) [ inl p ↦ ha k le p | inr q ↦ hb.2 k le lt q ])
first_of_either P Q R from (Some i) None p_is q_is split ha hb =
    (ha.0, p_is i ha.1, λ k le lt r. elim (split k r) [ inl p ↦ ha.2 k le lt p | inr q ↦ hb k le q ])
first_of_either P Q R from (Some i) (Some j) p_is q_is split ha hb = elim (which i j) [
  | inl w ↦ subst (λ (n : ℕ). IsFirstOf R from (Some n)) (sym w.0)
      (ha.0, p_is i ha.1, λ k le lt r. elim (split k r) [ inl p ↦ ha.2 k le lt p | inr q ↦ hb.2 k le (below k i j lt w.1) q ])
  | inr w ↦ subst (λ (n : ℕ). IsFirstOf R from (Some n)) (sym w.0)
      (hb.0, q_is j hb.1, λ k le lt r. elim (split k r) [ inl p ↦ ha.2 k le (below k j i lt w.1) p | inr q ↦ hb.2 k le lt q ])
]
  where
    which : (i j : ℕ) → ((min i j ≡ i) × (i ≤ j)) ⊎ ((min i j ≡ j) × (j ≤ i))
    which i j = elim (cases_lt i j) [ inl lt ↦ inl (omega arith, omega arith) | inr ge ↦ inr (omega arith, omega arith) ]

    below : (k i j : ℕ) → k < i → i ≤ j → k < j
    below k i j lt le = omega arith

-- ---- all, one after the other
pub all_same : (P Q : ℕ → Type 0) (from : ℕ) (xs : List ℕ) → ((j : ℕ) → (P j ↔ Q j)) → AreAllFrom P from xs → AreAllFrom Q from xs
all_same P Q from [] same h = first_kept P Q from None (λ j _. same j) h
all_same P Q from (i ∷ xs) same h = (first_kept P Q from (Some i) (λ j _. same j) h.0, all_same P Q (i + 1) xs same h.1)

-- the list goes on with all from a number on
abbrev pub GoesOn : (ℕ → Type 0) → List ℕ → ℕ → Type 0
GoesOn P xs from = (later : List ℕ) → AreAllFrom P from later → AreAllFrom P 0 (xs ++ later)

-- with no number yet
pub goes_on_from_none : (P : ℕ → Type 0) → GoesOn P [] 0
goes_on_from_none P later all = all

-- with one more
pub goes_on_from_next : (P : ℕ → Type 0) (xs : List ℕ) (from i : ℕ) → IsFirstOf P from (Some i) → GoesOn P xs from →
    GoesOn P (xs ++ (i ∷ [])) (i + 1)
goes_on_from_next P xs from i first on later all =
    subst (AreAllFrom P 0) (sym (append_assoc xs (i ∷ []) later)) (on (i ∷ later) (first, all))
