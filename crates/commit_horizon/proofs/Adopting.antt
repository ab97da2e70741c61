-- Regions that are opened or taken over, one place after the other.
use Rattle.std.proofs.Common.{◌≡◌, ◌⊎◌, inl, inr, ℕ, zero, suc, ◌+◌, ◌<◌, ◌≤◌, List, [], ◌∷◌, ◌++◌, length, map, slice_get, slice_set, sym, ap, ◌∙◌, subst, refl, arith, Some, Ok}
use Rattle.std.specs.Prelude.{Result, IfOk, slice_index_or}
use Rattle.std.proofs.lemmas.List.{length-append, length-map, map-append, append_assoc, append-nil}
use Rattle.std.proofs.lemmas.Option.{none-some, same_Some, slice_get_within}
use Rattle.cell_sequence.specs.State.{CellStateData}
use Rattle.cell_sequence.proofs.Lists.{get_other, get_here}
use Rattle.local_run.specs.Opening.{RegionData, IsOpened}
use Rattle.local_run.specs.Standing.{StandsOn}
use Rattle.commit_horizon.specs.declared.committed.Adopted.{Adopted}
use Rattle.commit_horizon.specs.declared.committed.Adopted.TheVariants.{Kept, Made}
use Rattle.commit_horizon.specs.Horizon.{AllStand}
use Rattle.commit_horizon.specs.Commits.{Adopts, IsAdopted, AllAdopted, adopted_region}
use Rattle.commit_horizon.proofs.Standing.{at_number}

-- ---- one more at the end
get_pushed : {A : Type 0} (xs : List A) (x y : A) (k : ℕ) → slice_get (xs ++ x ∷ []) k ≡ Some y →
    ((k ≡ length xs) × (y ≡ x)) ⊎ (slice_get xs k ≡ Some y)
get_pushed [] x y zero at = inl (refl, sym (same_Some x y at))
get_pushed [] x y (suc k) at = absurd (none-some y at)
get_pushed (z ∷ xs) x y zero at = inr at
get_pushed (z ∷ xs) x y (suc k) at = elim (get_pushed xs x y k at) [
  | inl last ↦ inl (ap suc last.0, last.1)
  | inr before ↦ inr before
]

-- ---- one place written
length_set : {A : Type 0} (xs : List A) (i : ℕ) (v : A) → length (slice_set xs i v) ≡ length xs
length_set [] i v = refl
length_set (x ∷ xs) zero v = refl
length_set (x ∷ xs) (suc i) v = ap suc (length_set xs i v)

-- ---- opened
pub opened_stands : (state : CellStateData) (k : ℕ) (region : RegionData) → IsOpened state k region →
    StandsOn state k region
opened_stands state k region is = record {
  run = record { floor = state.floor; base = is.run.0; heard = _; log = [] };
  alive = is.run.2;
  number = ap (λ h. h.number) is.home;
  rules = ap (λ h. h.rules) is.home;
  grid = ap (λ h. h.grid) is.home;
  floor = is.floor;
  base = is.run.1;
}

-- the first n places stand
pub record StandUpTo (state : CellStateData) (n : ℕ) (regions : List RegionData) : Type 0 where
  pub count : length regions ≡ n
  pub each : (k : ℕ) (region : RegionData) → slice_get regions k ≡ Some region → StandsOn state k region

pub none_stand : (state : CellStateData) → StandUpTo state 0 []
none_stand state = record { count = refl; each = λ k region at. absurd (none-some region at) }

pub one_more_stands : (state : CellStateData) (n : ℕ) (regions : List RegionData) (region : RegionData) →
    StandUpTo state n regions → StandsOn state n region →
    StandUpTo state (n + 1) (regions ++ region ∷ [])
one_more_stands state n regions region so_far stands = record {
  count = length-append regions (region ∷ []) ∙ ap (λ (m : ℕ). m + 1) so_far.count;
  each = λ k other at. elim (get_pushed regions region other k at) [
    | inl last ↦ subst (λ (m : ℕ). StandsOn state m other) (sym (last.0 ∙ so_far.count))
        (subst (StandsOn state n) (sym last.1) stands)
    | inr before ↦ so_far.each k other before
  ];
}

-- ---- opened side by side
-- one that was opened is put to those before it
pub one_more_opened : {A E : Type 0} (xs : List A) (x : A) (item : Result A E) (rest left all : List (Result A E)) →
    map Ok xs ++ rest ≡ all → rest ≡ item ∷ left → item ≡ Ok x → map Ok (xs ++ x ∷ []) ++ left ≡ all
one_more_opened {A} {E} xs x item rest left all so_far is good =
    ap (λ (v : List (Result A E)). v ++ left) (map-append Ok xs (x ∷ []))
    ∙ append_assoc (map Ok xs) (Ok x ∷ []) left
    ∙ ap (λ (v : List (Result A E)). map Ok xs ++ v) (sym (is ∙ ap (λ (v : Result A E). v ∷ left) good)) ∙ so_far

pub all_opened : {A E : Type 0} (xs : List A) (rest all : List (Result A E)) → map Ok xs ++ rest ≡ all →
    length rest ≡ 0 → map Ok xs ≡ all
all_opened xs [] all so_far none = sym (append-nil (map Ok xs)) ∙ so_far
all_opened xs (r ∷ rest) all so_far none = absurd (omega (arith, none))

mapped_at : {A B : Type 0} (f : A → B) (xs : List A) (k : ℕ) (x : A) → slice_get xs k ≡ Some x →
    slice_index_or (map f xs) k (f x) ≡ f x
mapped_at f [] k x at = absurd (none-some x at)
mapped_at f (y ∷ xs) zero x at = ap f (same_Some y x at)
mapped_at f (y ∷ xs) (suc k) x at = mapped_at f xs k x at

-- regions each of which was opened at its place stand
pub opened_stand : {E : Type 0} (state : CellStateData) (n : ℕ) (regions : List RegionData)
    (opened : List (Result RegionData E)) → n ≡ state.grid.regions → length opened ≡ n → map Ok regions ≡ opened →
    ((k : ℕ) (d : Result RegionData E) → k < n → IfOk (slice_index_or opened k d) (IsOpened state k)) →
    AllStand state regions
opened_stand {E} state n regions opened whole count same each = record {
  count = all ∙ whole;
  each = λ k region at. opened_stands state k region
      (subst (λ (r : Result RegionData E). IfOk r (IsOpened state k))
      (ap (λ (v : List (Result RegionData E)). slice_index_or v k (Ok region)) (sym same)
      ∙ mapped_at Ok regions k region at)
      (each k (Ok region) (subst (λ m. k < m) all (slice_get_within regions k region at))));
}
  where
    all : length regions ≡ n
    all = sym (length-map regions Ok) ∙ ap length same ∙ count

-- ---- adopted
adopted_stands : (state : CellStateData) (k : ℕ) (given : RegionData) (adopted : Adopted) →
    Adopts state k given adopted → StandsOn state k (adopted_region adopted)
adopted_stands state k given (Kept kept) is = subst (StandsOn state k) (sym is.1) is.0
adopted_stands state k given (Made made differs) is = opened_stands state k made is.1

pub is_adopted_stands : (state : CellStateData) (k : ℕ) (given region : RegionData) →
    IsAdopted state k given region → StandsOn state k region
is_adopted_stands state k given region is =
    subst (StandsOn state k) (sym is.2) (adopted_stands state k given is.0 is.1)

-- the first n places are adopted, and the others are as they were
pub record AdoptedUpTo (state : CellStateData) (given : List RegionData) (n : ℕ)
    (regions : List RegionData) : Type 0 where
  pub count : length regions ≡ length given
  pub done : (k : ℕ) (old : RegionData) → k < n → slice_get given k ≡ Some old →
      (region : RegionData) × (slice_get regions k ≡ Some region) × IsAdopted state k old region
  pub rest : (k : ℕ) → n ≤ k → slice_get regions k ≡ slice_get given k

pub none_adopted : (state : CellStateData) (given : List RegionData) → AdoptedUpTo state given 0 given
none_adopted state given = record {
  count = refl;
  done = λ k old lt at. absurd (omega arith);
  rest = λ k le. refl;
}

pub one_more_adopted : (state : CellStateData) (given regions : List RegionData) (n : ℕ)
    (old region : RegionData) → AdoptedUpTo state given n regions → slice_get regions n ≡ Some old →
    IsAdopted state n old region → AdoptedUpTo state given (n + 1) (slice_set regions n region)
one_more_adopted state given regions n old region so_far at is = record {
  count = length_set regions n region ∙ so_far.count;
  done = λ k other lt there. elim (last_or_before k lt) [
    | inl last ↦ here k other last there
    | inr before ↦ let was = so_far.done k other before there in
        (was.0, get_other regions n k region (omega (arith, before)) ∙ was.1, was.2)
  ];
  rest = λ k le. get_other regions n k region (omega (arith, le)) ∙ so_far.rest k (omega (arith, le));
}
  where
    last_or_before : (k : ℕ) → k < n + 1 → (k ≡ n) ⊎ (k < n)
    last_or_before k lt = grind arith

    here : (k : ℕ) (other : RegionData) → k ≡ n → slice_get given k ≡ Some other →
        (left : RegionData) × (slice_get (slice_set regions n region) k ≡ Some left)
        × IsAdopted state k other left
    here k other last there =
        let le : n ≤ n = omega arith in
        let same : other ≡ old = same_Some other old
        (sym there ∙ ap (slice_get given) last ∙ sym (so_far.rest n le) ∙ at) in (
          region,
          subst (λ (m : ℕ). slice_get (slice_set regions n region) m ≡ Some region) (sym last)
              (get_here regions n region old at),
          subst (λ (m : ℕ). IsAdopted state m other region) (sym last)
              (subst (λ (v : RegionData). IsAdopted state n v region) (sym same) is),
        )

pub all_adopted : (state : CellStateData) (given regions : List RegionData) (n : ℕ) → n ≡ length given →
    AdoptedUpTo state given n regions → AllAdopted state given regions
all_adopted state given regions n whole all = record {
  count = all.count;
  each = λ k old at. all.done k old
      (subst (λ (m : ℕ). k < m) (sym whole) (slice_get_within given k old at)) at;
}

pub all_adopted_stand : (state : CellStateData) (given regions : List RegionData) →
    length given ≡ state.grid.regions → AllAdopted state given regions → AllStand state regions
all_adopted_stand state given regions count all = record {
  count = all.count ∙ count;
  each = λ k region at. by_place k region at (at_number given k (within k region at));
}
  where
    within : (k : ℕ) (region : RegionData) → slice_get regions k ≡ Some region → k < length given
    within k region at = subst (λ (n : ℕ). k < n) all.count (slice_get_within regions k region at)

    by_place : (k : ℕ) (region : RegionData) → slice_get regions k ≡ Some region →
        (old : RegionData) × (slice_get given k ≡ Some old) → StandsOn state k region
    by_place k region at (old, there) =
        let is = all.each k old there in
        subst (StandsOn state k) (same_Some is.0 region (sym is.1 ∙ at)) (is_adopted_stands state k old is.0 is.2)
