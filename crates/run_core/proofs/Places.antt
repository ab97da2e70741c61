-- One of some regions that steps or hears, in a list of two parts.
use Rattle.std.proofs.Common.{◌≡◌, ◌↔◌, ℕ, ◌-◌, ◌<◌, List, ◌++◌, length, get_or, slice_get, slice_set, sym, ap, ◌∙◌, refl, arith, Some, Result, Ok, Err}
use Rattle.std.specs.Prelude.{IfOk, OnErr}
use Rattle.std.proofs.lemmas.List.{get_or_append_left, get_or-append_right, set-append_left, set-append_right}
use Rattle.std.proofs.lemmas.Option.{slice_get-get_or}
use Rattle.local_run.specs.declared.answers.Step.{Step}
use Rattle.local_run.specs.declared.answers.Hearing.{Hearing}
use Rattle.local_run.specs.declared.answers.Hearing.TheVariants.{Apart}
use Rattle.local_run.specs.Opening.{RegionData, AreApart, spent}
use Rattle.local_run.specs.Steps.{RegionSteps}
use Rattle.local_run.specs.Hearing.{HearsRegion}
use Rattle.run_core.specs.Turns.{Turns, Meets, SpendsOne}

-- ---- lists in two parts
module _ {A : Type 0} (xs front back : List A) (n : ℕ) (parts : xs ≡ front ++ back)
    (at : length front ≡ n) where
  pub in_front : (k : ℕ) (d : A) → k < n → n < length xs → slice_get xs k ≡ Some (get_or front k d)
  in_front k d lt some = slice_get-get_or xs k d (omega arith)
      ∙ ap (λ v. Some (get_or v k d)) parts ∙ ap Some (get_or_append_left front back d k (omega arith))

  pub in_back : (d : A) → n < length xs → slice_get xs n ≡ Some (get_or back 0 d)
  in_back d some =
      let none : n - n ≡ 0 = omega arith in
      slice_get-get_or xs n d some ∙ ap (λ v. Some (get_or v n d)) parts
      ∙ ap Some (get_or-append_right front back n n d at (omega arith)) ∙ ap (λ i. Some (get_or back i d)) none

  pub set_in_front : (k : ℕ) (x : A) → k < n → slice_set front k x ++ back ≡ slice_set xs k x
  set_in_front k x lt = sym (set-append_left front back k x (omega arith))
      ∙ ap (λ v. slice_set v k x) (sym parts)

  pub set_in_back : (x : A) → front ++ slice_set back 0 x ≡ slice_set xs n x
  set_in_back x =
      let none : 0 ≡ n - n = omega arith in
      ap (λ i. front ++ slice_set back i x) none ∙ sym (set-append_right front back n n x at (omega arith))
      ∙ ap (λ v. slice_set v n x) (sym parts)

-- ---- lists after a write
-- ---- one hears another
module _ {E : Type 0} (regions after : List RegionData) (k q : ℕ) (hearer sender left : RegionData)
    (r : Result Hearing E) (here : slice_get regions k ≡ Some hearer)
    (is : after ≡ slice_set regions k left) where
  pub meets : slice_get regions q ≡ Some sender → (r ≡ Ok Apart) ↔ AreApart hearer sender →
      IfOk r (λ answer. HearsRegion hearer sender answer left) →
      IfOk r (λ answer. Meets regions k q answer after)
  meets there apart hears = by_result r apart hears
    where
      by_result : (r : Result Hearing E) → (r ≡ Ok Apart) ↔ AreApart hearer sender →
          IfOk r (λ answer. HearsRegion hearer sender answer left) →
          IfOk r (λ answer. Meets regions k q answer after)
      by_result (Err e) apart hears = tt
      by_result (Ok answer) apart hears = record {
        hearer = hearer;
        sender = sender;
        here = here;
        there = there;
        left = left;
        apart = (λ e. apart.0 (ap Ok e), λ a. let e = apart.1 a in cc);
        hears = hears;
        is = is;
      }

-- ---- one steps
module _ {E : Type 0} (regions : List RegionData) (k : ℕ) (region left : RegionData) (r : Result Step E)
    (here : slice_get regions k ≡ Some region) where
  pub turns : IfOk r (λ answer. RegionSteps region answer left) →
      IfOk r (λ answer. Turns regions k answer (slice_set regions k left))
  turns steps = by_result r steps
    where
      by_result : (r : Result Step E) → IfOk r (λ answer. RegionSteps region answer left) →
          IfOk r (λ answer. Turns regions k answer (slice_set regions k left))
      by_result (Err e) steps = tt
      by_result (Ok answer) steps =
          record { region = region; here = here; left = left; steps = steps; is = refl }

-- ---- one is spent
module _ {T E : Type 0} (regions after : List RegionData) (k : ℕ) (region left : RegionData) (r : Result T E)
    (here : slice_get regions k ≡ Some region) (is : after ≡ slice_set regions k left) where
  pub spends : OnErr r (left ≡ spent region) → OnErr r (SpendsOne regions k after)
  spends gone = by_result r gone
    where
      by_result : (r : Result T E) → OnErr r (left ≡ spent region) → OnErr r (SpendsOne regions k after)
      by_result (Ok answer) gone = tt
      by_result (Err e) gone =
          record { region = region; here = here; is = is ∙ ap (slice_set regions k) gone }
