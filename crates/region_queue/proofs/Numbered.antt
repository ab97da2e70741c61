-- The disks of a view, by number.
use Rattle.std.proofs.Common.{◌≡◌, ℕ, ◌+◌, ◌<◌, List, [], ◌∷◌, ◌++◌, arith, subst, inl, inr}
use Rattle.std.specs.Prelude.{Some, None}
use Rattle.std.specs.List.{Contains}
use Rattle.std.proofs.lemmas.Bool.{cases_lt}
use Rattle.std.proofs.lemmas.List.Elements.{Contains-push, Contains-append_left}
use Rattle.region_view.specs.declared.action.Placed.{Placed}
use Rattle.region_view.specs.Views.{ViewData, rows_in, IsNextRow}

pub numbered_more : (view : ViewData) (from disk : ℕ) (row : Placed) (disks : List ℕ) → IsNextRow view from (Some (disk, row)) →
    ((i : ℕ) → i < from → ¬ Contains disks i → rows_in view i ≡ None) → (i : ℕ) → i < disk + 1 → ¬ Contains (disks ++ disk ∷ []) i →
    rows_in view i ≡ None
numbered_more view from disk row disks next before i lt none = elim (cases_lt i from) [
  | inl earlier ↦ before i earlier (λ among. none (Contains-append_left disks (disk ∷ []) i among))
  | inr past ↦ elim (cases_lt i disk) [
    | inl between ↦ next.2 i past between
    | inr reached ↦
        let same : disk ≡ i = omega arith in
        absurd (none (subst (λ (n : ℕ). Contains (disks ++ disk ∷ []) n) same (Contains-push disks disk)))
  ]
]

pub numbered_all : (view : ViewData) (from : ℕ) (disks : List ℕ) → IsNextRow view from None →
    ((i : ℕ) → i < from → ¬ Contains disks i → rows_in view i ≡ None) → (i : ℕ) → ¬ Contains disks i → rows_in view i ≡ None
numbered_all view from disks next before i none = elim (cases_lt i from) [
  | inl earlier ↦ before i earlier none
  | inr past ↦ next i past
]
