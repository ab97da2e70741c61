-- Columns along a side of the box.
use Rattle.std.proofs.Common.{◌≡◌, inl, inr, ℕ, ◌+◌, ◌-◌, ◌*◌, ◌/◌, ◌<◌, ◌≤◌, min, sym, subst, arith}
use Rattle.std.proofs.Math.Nat.{mul-le-mul, le-div_iff_mul-le}
use Rattle.std.proofs.lemmas.Bool.{cases_lt}

-- the number of a column: the number of whole sides before it, or the last column
abbrev pub at : ℕ → ℕ → ℕ → ℕ
at side count n = min (n / side) (count - 1)

pub below_count : (side count n : ℕ) → 1 ≤ count → at side count n < count
below_count side count n some = grind arith

-- a coordinate is at least the sides before its column
pub at_least : (side count n : ℕ) → 1 ≤ side → at side count n * side ≤ n
at_least side count n some =
    let q = le-div_iff_mul-le {k = side} {x = n / side} {y = n} (omega arith) in
    let whole : (n / side) * side ≤ n = q.0 (omega arith) in
    let lower : min (n / side) (count - 1) ≤ n / side = omega arith in
    let scaled : min (n / side) (count - 1) * side ≤ (n / side) * side = mul-le-mul lower (omega arith) in
    omega arith

-- and below the end of its column, unless that is the last
pub at_most : (side count n : ℕ) → 1 ≤ side → at side count n + 1 < count → n < (at side count n + 1) * side
at_most side count n some not_last =
    let here : min (n / side) (count - 1) ≡ n / side = omega arith in
    let q = le-div_iff_mul-le {k = side} {x = n / side + 1} {y = n} (omega arith) in
    elim (cases_lt n ((n / side + 1) * side)) [
      | inl lt ↦ subst (λ (m : ℕ). n < (m + 1) * side) (sym here) lt
      | inr le ↦ absurd (let over : n / side + 1 ≤ n / side = q.1 le in omega arith)
    ]

pub rises : (side count m n : ℕ) → 1 ≤ side → m ≤ n → at side count m ≤ at side count n
rises side count m n some le =
    let q = le-div_iff_mul-le {k = side} {x = m / side} {y = m} (omega arith) in
    let p = le-div_iff_mul-le {k = side} {x = m / side} {y = n} (omega arith) in
    let whole : (m / side) * side ≤ m = q.0 (omega arith) in
    let less : m / side ≤ n / side = p.1 (omega arith) in
    omega arith

-- columns that differ by two or more are more than a side apart
pub far : (side count m n : ℕ) → 1 ≤ side → 1 ≤ count → at side count m + 2 ≤ at side count n → m + side < n
far side count m n some one apart =
    let below = below_count side count n one in
    let low = at_least side count n some in
    let high = at_most side count m some (omega arith) in
    let scaled : (min (m / side) (count - 1) + 2) * side ≤ min (n / side) (count - 1) * side =
    mul-le-mul apart (omega arith) in
    omega arith

-- a way of at most a side leads to the same column or the next
pub near : (side count m n : ℕ) → 1 ≤ side → 1 ≤ count → m ≤ n → n ≤ m + side → at side count n ≤ at side count m + 1
near side count m n some one le short = elim (cases_lt (at side count m + 1) (at side count n)) [
  | inl lt ↦ absurd (let over = far side count m n some one (omega arith) in omega arith)
  | inr le ↦ le
]

-- what lies between two coordinates of one column is in it
pub between : (side count c m k n : ℕ) → 1 ≤ side → m ≤ k → k ≤ n → at side count m ≡ c → at side count n ≡ c →
    at side count k ≡ c
between side count c m k n some lo hi e f =
    let up = rises side count m k some lo in
    let down = rises side count k n some hi in
    omega arith
