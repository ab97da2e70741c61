-- The first number that has a property, and the last.
use Rattle.std.specs.Prelude.{ℕ, ◌+◌, ◌<◌, ◌≤◌, min, List, [], ◌∷◌, Option, Some, None, MatchOption}

-- the first number, from one on, for which P holds; none if there is none
abbrev pub IsFirstOf : (ℕ → Type 0) → ℕ → Option ℕ → Type 0
IsFirstOf P from o = MatchOption o ((j : ℕ) → from ≤ j → ¬ P j)
    (λ i. (from ≤ i) × P i × ((j : ℕ) → from ≤ j → j < i → ¬ P j))

-- all numbers from one on for which P holds, ascending
abbrev pub AreAllFrom : (ℕ → Type 0) → ℕ → List ℕ → Type 0
AreAllFrom P from [] = IsFirstOf P from None
AreAllFrom P from (i ∷ later) = IsFirstOf P from (Some i) × AreAllFrom P (i + 1) later

-- the lesser of two numbers, either of which may be none
abbrev pub lesser_of : Option ℕ → Option ℕ → Option ℕ
lesser_of None o = o
lesser_of (Some i) None = Some i
lesser_of (Some i) (Some j) = Some (min i j)

-- the last number below another one for which P holds; none if there is none
abbrev pub IsLastOf : (ℕ → Type 0) → ℕ → Option ℕ → Type 0
IsLastOf P below o = MatchOption o ((j : ℕ) → j < below → ¬ P j)
    (λ i. (i < below) × P i × ((j : ℕ) → i < j → j < below → ¬ P j))
