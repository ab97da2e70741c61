-- How far the numbers of adjacent cells are apart.
use Rattle.std.proofs.Common.{◌≡◌, ℕ, ◌+◌, ◌-◌, ◌*◌, ◌/◌, ◌%◌, ◌^◌, ◌≤◌, ◌<◌, ◌⊎◌, inl, inr, min, max, subst, refl, arith}
use Rattle.std.proofs.Math.Nat.{min-le_left, min-le_right, le-max_left, le-max_right}
use Rattle.std.proofs.lemmas.Nat.{div-add-mod'}
use Rattle.cell_grid.specs.Grid.{GridData, IsBeside, IsAdjacent}

abbrev pub between : ℕ → ℕ → ℕ
between a b = (a - b) + (b - a)

-- by one at most, or by this many columns, one more or one less
pub record AreNear (columns apart : ℕ) : Type 0 where
  pub most : apart ≤ columns + 1
  pub either : (apart ≤ 1) ⊎ (columns ≤ apart + 1)

-- of two rows beside each other one is the next, if they aren't the same
same_or_next : (m n : ℕ) → IsBeside m n → (m ≡ n) ⊎ ((m ≡ n + 1) ⊎ (n ≡ m + 1))
same_or_next m n beside = grind arith

next_row : (columns m n : ℕ) → m ≡ n + 1 → m * columns ≡ n * columns + columns
next_row columns m n e = rw e (omega arith)

-- the cells at which the rows begin
rows_begin : (columns m n : ℕ) → IsBeside m n →
    (m * columns ≡ n * columns) ⊎ ((m * columns ≡ n * columns + columns) ⊎ (n * columns ≡ m * columns + columns))
rows_begin columns m n beside = elim (same_or_next m n beside) [
  | inl e ↦ inl (rw e refl)
  | inr more ↦ elim more [
    | inl e ↦ inr (inl (next_row columns m n e))
    | inr e ↦ inr (inr (next_row columns n m e))
  ]
]

near_along : (columns p q m n : ℕ) → IsBeside m n →
    (p ≡ q) ⊎ ((p ≡ q + columns) ⊎ (q ≡ p + columns)) → AreNear columns (between (p + m) (q + n))
near_along columns p q m n beside (inl e) = record { most = omega arith; either = inl (omega arith) }
near_along columns p q m n beside (inr (inl e)) = record { most = omega arith; either = inr (omega arith) }
near_along columns p q m n beside (inr (inr e)) = record { most = omega arith; either = inr (omega arith) }

pub adjacent_are_near : (grid : GridData) (a b : ℕ) → IsAdjacent grid a b → AreNear grid.columns (between a b)
adjacent_are_near grid a b adjacent =
    let w = grid.columns in
    subst (λ (n : ℕ). AreNear w (between n b)) (div-add-mod' a w)
    (subst (λ (n : ℕ). AreNear w (between (a / w * w + a % w) n)) (div-add-mod' b w)
    (near_along w (a / w * w) (b / w * w) (a % w) (b % w) adjacent.0 (rows_begin w (a / w) (b / w) adjacent.1)))

-- ---- bounds
-- a cell that is farther below the lesser of two, or above the greater, than adjacent cells are apart
pub beyond_bounds : (grid : GridData) (a b cell low high : ℕ) → low ≡ min a b - (grid.columns + 1) →
    high ≡ min (max a b + (grid.columns + 1)) (2 ^ 32 - 1) → cell < 2 ^ 32 → (cell < low) ⊎ (high < cell) →
    (¬ IsAdjacent grid cell a) × (¬ IsAdjacent grid cell b)
beyond_bounds grid a b cell low high below above fits side = (
  λ adjacent. apart a (adjacent_are_near grid cell a adjacent).most (min-le_left a b) (le-max_left a b) side,
  λ adjacent. apart b (adjacent_are_near grid cell b adjacent).most (min-le_right a b) (le-max_right a b) side,
)
  where
    apart : (c : ℕ) → between cell c ≤ grid.columns + 1 → min a b ≤ c → c ≤ max a b →
        (cell < low) ⊎ (high < cell) → ⊥
    apart c near least most (inl before) = omega arith
    apart c near least most (inr after) = omega arith
