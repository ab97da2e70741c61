-- The first of some regions whose due stamp is the least.
use Rattle.std.proofs.Common.{◌≡◌, ◌⊎◌, inl, inr, ℕ, ◌+◌, ◌<◌, List, true, false, slice_get, sym, ap, ◌∙◌, subst, refl, arith, Some}
use Rattle.std.specs.Prelude.{if◌then◌else◌, ◌==◌}
use Rattle.std.proofs.lemmas.Option.{same_Some}
use Rattle.event_stamps.specs.declared.Stamp.{Stamp}
use Rattle.event_stamps.specs.Order.{Before}
use Rattle.event_stamps.proofs.StampOrder.{before_trans, not_before_itself}
use Rattle.region_messages.proofs.Order.{before_not_before}
use Rattle.local_run.specs.Opening.{RegionData}
use Rattle.local_run.specs.Keeping.{IsDueIn}
use Rattle.run_core.specs.Taking.{IsFirstDue}

-- the first region alone
pub due_first : (regions : List RegionData) (region : RegionData) (s : Stamp) →
    slice_get regions 0 ≡ Some region → IsDueIn region s → IsFirstDue regions 1 0 s
due_first regions region s here due = record {
  dues = λ k. s;
  due = λ k other lt at. subst (λ (v : RegionData). IsDueIn v s)
      (same_Some region other (sym here ∙ ap (slice_get regions) (first k lt) ∙ at)) due;
  within = omega arith;
  has = refl;
  least = λ k lt. not_before_itself s;
  first = λ k lt. absurd (omega arith);
}
  where
    first : (k : ℕ) → k < 1 → 0 ≡ k
    first k lt = omega arith

-- the same by other names
pub due_as : (regions : List RegionData) (n home : ℕ) (least : Stamp) (at : ℕ) (s : Stamp) → at ≡ home → s ≡ least →
    IsFirstDue regions n home least → IsFirstDue regions n at s
due_as regions n home least at s at_home is_least first =
    subst (λ (v : ℕ). IsFirstDue regions n v s) (sym at_home)
    (subst (IsFirstDue regions n home) (sym is_least) first)

below_or_last : (k n : ℕ) → k < n + 1 → (k < n) ⊎ (k ≡ n)
below_or_last k n lt = grind arith

is_last : (k n : ℕ) → k ≡ n → (k == n) ≡ true
is_last k n same = grind arith

not_last : (k n : ℕ) → k < n → (k == n) ≡ false
not_last k n less = grind arith

-- one more region
module _ (regions : List RegionData) (n home : ℕ) (least due : Stamp) (region : RegionData)
    (is : IsFirstDue regions n home least) (here : slice_get regions n ≡ Some region)
    (has : IsDueIn region due) where
  dues : ℕ → Stamp
  dues k = if k == n then due else is.dues k

  at_last : (k : ℕ) → k ≡ n → due ≡ dues k
  unfolding dues
  at_last k same = ap (λ b. if b then due else is.dues k) (sym (is_last k n same))

  at_first : (k : ℕ) → k < n → is.dues k ≡ dues k
  unfolding dues
  at_first k less = ap (λ b. if b then due else is.dues k) (sym (not_last k n less))

  all_due : (k : ℕ) (other : RegionData) → k < n + 1 → slice_get regions k ≡ Some other →
      IsDueIn other (dues k)
  all_due k other lt at = elim (below_or_last k n lt) [
    | inl less ↦ subst (IsDueIn other) (at_first k less) (is.due k other less at)
    | inr same ↦ subst (IsDueIn other) (at_last k same) (subst (λ (v : RegionData). IsDueIn v due)
        (same_Some region other (sym here ∙ ap (slice_get regions) (sym same) ∙ at)) has)
  ]

  all_least : (s : Stamp) → ¬ Before due s → ((k : ℕ) → k < n → ¬ Before (is.dues k) s) → (k : ℕ) → k < n + 1 →
      ¬ Before (dues k) s
  all_least s last others k lt = elim (below_or_last k n lt) [
    | inl less ↦ subst (λ (v : Stamp). ¬ Before v s) (at_first k less) (others k less)
    | inr same ↦ subst (λ (v : Stamp). ¬ Before v s) (at_last k same) last
  ]

  -- what it has due is before what was the least
  pub due_there : Before due least → IsFirstDue regions (n + 1) n due
  due_there less = record {
    dues = dues;
    due = all_due;
    within = omega arith;
    has = sym (at_last n refl);
    least = all_least due (not_before_itself due)
        (λ k lt before. is.least k lt (before_trans (is.dues k) due least before less));
    first = λ k lt. subst (Before due) (at_first k lt)
        (before_not_before due (is.dues k) least less (is.least k lt));
  }

  -- it isn't
  pub due_before : ¬ Before due least → IsFirstDue regions (n + 1) home least
  due_before not = record {
    dues = dues;
    due = all_due;
    within = let within = is.within in omega arith;
    has = sym (at_first home is.within) ∙ is.has;
    least = all_least least not is.least;
    first = λ k lt. subst (Before least) (at_first k (let within = is.within in omega arith)) (is.first k lt);
  }
