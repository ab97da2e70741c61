-- Prefixes of some changes and of more, told one after the other.
use Rattle.std.proofs.Common.{◌≡◌, inl, inr, ℕ, suc, ◌+◌, List, [], ◌∷◌, ◌++◌, length, take, drop, sym, ap, ◌∙◌, subst, arith, Option}
use Rattle.std.proofs.lemmas.Grind.{common_steps}
use Rattle.event_rules.specs.Told.{Told, PrefixTold}
use Rattle.commit_horizon.proofs.Tellings.{told_in_turn}

take_past : {C : Type 0} (xs ys : List C) (n : ℕ) → take (length xs + n) (xs ++ ys) ≡ xs ++ take n ys
take_past [] ys n = grind (arith, common_steps)
take_past (x ∷ xs) ys n =
    let more : length (x ∷ xs) + n ≡ suc (length xs + n) = omega arith in
    ap (λ (m : ℕ). take m (x ∷ (xs ++ ys))) more ∙ ap (λ v. x ∷ v) (take_past xs ys n)

drop_past : {C : Type 0} (xs ys : List C) (n : ℕ) → drop (length xs + n) (xs ++ ys) ≡ drop n ys
drop_past [] ys n = grind (arith, common_steps)
drop_past (x ∷ xs) ys n =
    let more : length (x ∷ xs) + n ≡ suc (length xs + n) = omega arith in
    ap (λ (m : ℕ). drop m (x ∷ (xs ++ ys))) more ∙ drop_past xs ys n

-- after some changes, a prefix of more
pub whole_after : {M C : Type 0} (after : M → C → M) (old mid new : Option M) (xs ys : List C) →
    Told after old xs mid → (n : ℕ) × Told after mid (take n ys) new →
    (n : ℕ) × Told after old (take n (xs ++ ys)) new
whole_after {C = C} after old mid new xs ys first (n, rest) = (
  length xs + n,
  subst (λ (v : List C). Told after old v new) (sym (take_past xs ys n))
      (told_in_turn after old mid new xs (take n ys) first rest),
)

pub prefix_after : {M C : Type 0} (after : M → C → M) (torn : M → C → M → Type 0) (old mid new : Option M)
    (xs ys : List C) → Told after old xs mid → PrefixTold after torn mid ys new →
    PrefixTold after torn old (xs ++ ys) new
prefix_after {C = C} after torn old mid new xs ys first (n, inl all) =
    let whole = whole_after after old mid new xs ys first (n, all) in (whole.0, inl whole.1)
prefix_after {C = C} after torn old mid new xs ys first (n, inr (between, change, rest, is, told, refused)) = (
  length xs + n,
  inr (
    between,
    change,
    rest,
    drop_past xs ys n ∙ is,
    subst (λ (v : List C). Told after old v between) (sym (take_past xs ys n))
        (told_in_turn after old mid between xs (take n ys) first told),
    refused,
  ),
)
