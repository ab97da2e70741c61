-- Lists that are merged by stamps: there is one way, and the first of the merged actions is the least of all.
use Rattle.std.proofs.Common.{◌≡◌, ◌≢◌, inl, inr, ℕ, zero, suc, ◌<◌, List, [], ◌∷◌, length, set, get_or, get_or-set_same, get_or-set_other, sym, ap, ◌∙◌, subst, refl}
use Rattle.std.proofs.lemmas.Bool.{cases_lt}
use Rattle.std.proofs.lemmas.List.{get_or_past}
use Rattle.event_stamps.specs.Order.{Before}
use Rattle.event_stamps.proofs.StampOrder.{before_trans, before_decides, not_before_itself}
use Rattle.region_view.specs.declared.action.Action.{Action}
use Rattle.region_view.specs.Acting.{stamp_of}
use Rattle.region_messages.proofs.Order.{is_before_true, is_before_false}
use Rattle.local_run.proofs.Among.{same_or_other}
use Rattle.commit_horizon.specs.Untold.{ActionsBeginAfter, IsMergeOf, merged_with, merged_of, CanBeTold, AllCanBeTold, CanBeTellings}

-- ---- two lists
not_after : (x y : Action) → Before (stamp_of x) (stamp_of y) → ¬ Before (stamp_of y) (stamp_of x)
not_after x y before less = not_before_itself (stamp_of x) (before_trans (stamp_of x) (stamp_of y) (stamp_of x) before less)

-- the first of either list goes first, if it comes before the other list
left_first : (x : Action) (xs ys : List Action) → ActionsBeginAfter x ys →
    merged_with (x ∷ xs) ys ≡ x ∷ merged_with xs ys
left_first x xs [] after = refl
left_first x xs (y ∷ ys) after = rw (is_before_false (stamp_of y) (stamp_of x) (not_after x y after)) refl

right_first : (x : Action) (xs ys : List Action) → ActionsBeginAfter x xs →
    merged_with xs (x ∷ ys) ≡ x ∷ merged_with xs ys
right_first x [] ys after = refl
right_first x (y ∷ xs) ys after = rw (is_before_true (stamp_of x) (stamp_of y) after) refl

both_after : (x : Action) (xs ys : List Action) → ActionsBeginAfter x xs → ActionsBeginAfter x ys → ActionsBeginAfter x (merged_with xs ys)
both_after x [] ys here there = there
both_after x (a ∷ xs) [] here there = here
both_after x (a ∷ xs) (b ∷ ys) here there = elim (before_decides (stamp_of b) (stamp_of a)) [
  | inl less ↦ rw (is_before_true (stamp_of b) (stamp_of a) less) there
  | inr not ↦ rw (is_before_false (stamp_of b) (stamp_of a) not) here
]

-- ---- all lists
all_after : (lists : List (List Action)) (x : Action) → ((k : ℕ) → ActionsBeginAfter x (get_or lists k [])) →
    ActionsBeginAfter x (merged_of lists)
unfolding merged_of
all_after [] x each = tt
all_after (xs ∷ lists) x each =
    both_after x xs (merged_of lists) (each zero) (all_after lists x (λ k. each (suc k)))

none_merged : (lists : List (List Action)) → ((k : ℕ) → get_or lists k [] ≡ []) → merged_of lists ≡ []
unfolding merged_of
none_merged [] none = refl
none_merged (xs ∷ lists) none =
    ap (λ (v : List Action). merged_with v (merged_of lists)) (none zero) ∙ none_merged lists (λ k. none (suc k))

-- the first of one list goes first, if it comes before all others
goes_first : (lists : List (List Action)) (k : ℕ) (x : Action) (rest : List Action) → get_or lists k [] ≡ x ∷ rest →
    ((q : ℕ) → q ≢ k → ActionsBeginAfter x (get_or lists q [])) → merged_of lists ≡ x ∷ merged_of (set lists k rest)
unfolding merged_of
goes_first [] k x rest at others = cc
goes_first (xs ∷ lists) zero x rest at others =
    ap (λ (v : List Action). merged_with v (merged_of lists)) at
    ∙ left_first x rest (merged_of lists) (all_after lists x (λ q. others (suc q) (λ same. cc)))
goes_first (xs ∷ lists) (suc k) x rest at others =
    ap (merged_with xs) (goes_first lists k x rest at (λ q not. others (suc q) (λ same. not cc)))
    ∙ right_first x xs (merged_of (set lists k rest)) (others zero (λ same. cc))

-- they are merged to this list
pub merge_is : (lists : List (List Action)) (xs : List Action) → IsMergeOf lists xs → merged_of lists ≡ xs
merge_is lists [] none = none_merged lists none
merge_is lists (x ∷ xs) (k, rest, at, others, more) =
    goes_first lists k x rest at others ∙ ap (λ (v : List Action). x ∷ v) (merge_is (set lists k rest) xs more)

-- the first of a list that is there is within it
pub within_lists : (lists : List (List Action)) (k : ℕ) (x : Action) (xs : List Action) → get_or lists k [] ≡ x ∷ xs →
    k < length lists
within_lists lists k x xs at = elim (cases_lt k (length lists)) [
  | inl lt ↦ lt
  | inr past ↦ let same : [] ≡ x ∷ xs = sym (get_or_past lists k [] past) ∙ at in absurd cc
]

-- ---- the least of all
-- no other list begins before it
abbrev pub NoneBeginsBefore : List (List Action) → Action → Type 0
NoneBeginsBefore lists x = (q : ℕ) (y : Action) (ys : List Action) → get_or lists q [] ≡ y ∷ ys →
    ¬ Before (stamp_of y) (stamp_of x)

-- it is the first of the merged actions, and what is left of the lists is merged to the others
pub record GoesFirst (lists : List (List Action)) (k : ℕ) (x : Action) (rest xs : List Action) : Type 0 where
  pub others : List Action
  pub first : xs ≡ x ∷ others
  pub merged : IsMergeOf (set lists k rest) others

pub least_goes : (lists : List (List Action)) (k : ℕ) (x : Action) (rest xs : List Action) → IsMergeOf lists xs →
    get_or lists k [] ≡ x ∷ rest → NoneBeginsBefore lists x → GoesFirst lists k x rest xs
least_goes lists k x rest [] none at least = let same : [] ≡ x ∷ rest = sym (none k) ∙ at in absurd cc
least_goes lists k x rest (y ∷ ys) (j, tail, there, others, more) at least = elim (same_or_other k j) [
  | inl same ↦
      let is : y ∷ tail ≡ x ∷ rest = sym there ∙ sym (ap (λ (n : ℕ). get_or lists n []) same) ∙ at in
      let first : y ≡ x = cc in
      let left : tail ≡ rest = cc in record {
        others = ys;
        first = ap (λ (v : Action). v ∷ ys) first;
        merged = subst (λ (n : ℕ). IsMergeOf (set lists n rest) ys) (sym same)
            (subst (λ (v : List Action). IsMergeOf (set lists j v) ys) left more);
      }
  | inr other ↦ absurd (least j y tail there (subst (ActionsBeginAfter y) at (others k other)))
]

-- if all lists are empty, nothing is merged
pub nothing_left : (lists : List (List Action)) (xs : List Action) → IsMergeOf lists xs →
    ((k : ℕ) → get_or lists k [] ≡ []) → xs ≡ []
nothing_left lists xs merged none = sym (merge_is lists xs merged) ∙ none_merged lists none

-- ---- what can be told
-- the first of each list can be told, if all that is merged can be
pub first_can : (lists : List (List Action)) (xs : List Action) (k : ℕ) (x : Action) (rest : List Action) →
    CanBeTellings lists xs → get_or lists k [] ≡ x ∷ rest → CanBeTold x
first_can lists xs k x rest can = by_list lists xs can.merged can.can
  where
    by_list : (lists : List (List Action)) (xs : List Action) → IsMergeOf lists xs → AllCanBeTold xs →
        get_or lists k [] ≡ x ∷ rest → CanBeTold x
    by_list lists [] none all at = let same : [] ≡ x ∷ rest = sym (none k) ∙ at in absurd cc
    by_list lists (y ∷ ys) (j, tail, there, others, more) all at = elim (same_or_other k j) [
      | inl same ↦
          let is : y ∷ tail ≡ x ∷ rest = sym there ∙ sym (ap (λ (n : ℕ). get_or lists n []) same) ∙ at in
          let first : y ≡ x = cc in subst CanBeTold first all.0
      | inr other ↦ by_list (set lists j tail) ys more all.1 (get_or-set_other lists j k tail [] other ∙ at)
    ]

-- and so can all of each list
pub list_can : (lists : List (List Action)) (xs : List Action) (k : ℕ) → IsMergeOf lists xs → AllCanBeTold xs →
    AllCanBeTold (get_or lists k [])
list_can lists [] k none can = subst AllCanBeTold (sym (none k)) tt
list_can lists (y ∷ ys) k (j, tail, there, others, more) can = elim (same_or_other k j) [
  | inl same ↦ subst AllCanBeTold (sym (ap (λ (n : ℕ). get_or lists n []) same ∙ there)) (
    can.0,
    subst AllCanBeTold (get_or-set_same lists j tail [] (within_lists lists j y tail there))
        (list_can (set lists j tail) ys j more can.1),
  )
  | inr other ↦ subst AllCanBeTold (get_or-set_other lists j k tail [] other)
      (list_can (set lists j tail) ys k more can.1)
]
