-- Lists after a write, and what stands at their places.
use Rattle.std.proofs.Common.{◌≡◌, ◌≢◌, ◌⊎◌, inl, inr, ℕ, zero, suc, List, [], ◌∷◌, sym, ap, refl}
use Rattle.std.proofs.Common.{arith, Some, None, slice_get, slice_set}
use Rattle.std.specs.Prelude.{map}
use Rattle.std.proofs.lemmas.Option.{none-some, same_Some}

pub get_set : {A : Type 0} (xs : List A) (i j : ℕ) (v x : A) →
    slice_get (slice_set xs i v) j ≡ Some x →
    ((j ≡ i) × (x ≡ v)) ⊎ ((j ≢ i) × (slice_get xs j ≡ Some x))
get_set [] i j v x h = absurd (none-some x h)
get_set (y ∷ ys) zero zero v x h = inl (refl, sym (same_Some v x h))
get_set (y ∷ ys) zero (suc j) v x h = inr (omega arith, h)
get_set (y ∷ ys) (suc i) zero v x h = inr (omega arith, h)
get_set (y ∷ ys) (suc i) (suc j) v x h = elim (get_set ys i j v x h) [
  | inl same ↦ inl (ap suc same.0, same.1)
  | inr other ↦ inr ((let ne : j ≢ i = other.0 in omega arith), other.1)
]

pub get_map : {A B : Type 0} (f : A → B) (xs : List A) (i : ℕ) (y : B) →
    slice_get (map f xs) i ≡ Some y → (x : A) × (slice_get xs i ≡ Some x) × (f x ≡ y)
get_map f [] i y h = absurd (none-some y h)
get_map f (x ∷ xs) zero y h = (x, refl, same_Some (f x) y h)
get_map f (x ∷ xs) (suc i) y h = get_map f xs i y h

pub set_same : {A : Type 0} (xs : List A) (i : ℕ) (x : A) → slice_get xs i ≡ Some x →
    slice_set xs i x ≡ xs
set_same [] i x h = refl
set_same (y ∷ ys) zero x h = ap (λ v. v ∷ ys) (sym (same_Some y x h))
set_same (y ∷ ys) (suc i) x h = ap (λ zs. y ∷ zs) (set_same ys i x h)

pub get_other : {A : Type 0} (xs : List A) (i j : ℕ) (v : A) → j ≢ i →
    slice_get (slice_set xs i v) j ≡ slice_get xs j
get_other [] i j v ne = refl
get_other (y ∷ ys) zero zero v ne = absurd (ne refl)
get_other (y ∷ ys) zero (suc j) v ne = refl
get_other (y ∷ ys) (suc i) zero v ne = refl
get_other (y ∷ ys) (suc i) (suc j) v ne = get_other ys i j v (λ e. ne (ap suc e))

pub set_none : {A : Type 0} (xs : List A) (i : ℕ) (v : A) → slice_get xs i ≡ None →
    slice_set xs i v ≡ xs
set_none [] i v h = refl
set_none (y ∷ ys) zero v h = absurd (none-some y (sym h))
set_none (y ∷ ys) (suc i) v h = ap (λ zs. y ∷ zs) (set_none ys i v h)

pub get_here : {A : Type 0} (xs : List A) (i : ℕ) (v x : A) → slice_get xs i ≡ Some x →
    slice_get (slice_set xs i v) i ≡ Some v
get_here [] i v x h = absurd (none-some x h)
get_here (y ∷ ys) zero v x h = refl
get_here (y ∷ ys) (suc i) v x h = get_here ys i v x h
