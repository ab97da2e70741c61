-- The strips of columns.
use Rattle.std.proofs.Common.{◌≡◌, inl, inr, ℕ, ◌+◌, ◌-◌, ◌*◌, ◌/◌, ◌<◌, ◌≤◌, arith}
use Rattle.std.proofs.Math.Nat.{mul-le-mul, le-div_iff_mul-le}
use Rattle.std.proofs.lemmas.Bool.{cases_lt}

abbrev pub start : ℕ → ℕ → ℕ → ℕ
start columns regions k = k * columns / regions

-- a column is at or after the start of region k if and only if k columns < (column + 1) regions
pub from_start : (columns regions k column : ℕ) → 1 ≤ regions → start columns regions k ≤ column →
    k * columns < (column + 1) * regions
from_start columns regions k column some le =
    let q = le-div_iff_mul-le {k = regions} {x = column + 1} {y = k * columns} (omega arith) in
    elim (cases_lt (k * columns) ((column + 1) * regions)) [
      | inl lt ↦ lt
      | inr more ↦ absurd (let over : column + 1 ≤ k * columns / regions = q.1 more in omega arith)
    ]

pub before_start : (columns regions k column : ℕ) → 1 ≤ regions → column < start columns regions k →
    (column + 1) * regions ≤ k * columns
before_start columns regions k column some lt =
    let q = le-div_iff_mul-le {k = regions} {x = column + 1} {y = k * columns} (omega arith) in
    q.0 (omega arith)

-- starts rise strictly, if there are at most as many regions as columns
pub starts_rise : (columns regions k : ℕ) → 1 ≤ regions → regions ≤ columns →
    start columns regions k < start columns regions (k + 1)
starts_rise columns regions k some fits =
    let q = le-div_iff_mul-le {k = regions} {x = k * columns / regions} {y = k * columns} (omega arith) in
    let whole : (k * columns / regions) * regions ≤ k * columns = q.0 (omega arith) in
    let p = le-div_iff_mul-le {k = regions} {x = k * columns / regions + 1} {y = (k + 1) * columns} (omega arith) in
    let more : k * columns / regions + 1 ≤ (k + 1) * columns / regions = p.1 (omega arith) in
    omega arith

-- two regions that own one column are one
pub one_owner : (columns regions j k column : ℕ) → 1 ≤ regions → start columns regions j ≤ column →
    column < start columns regions (j + 1) →
    start columns regions k ≤ column → column < start columns regions (k + 1) → j ≡ k
one_owner columns regions j k column some a b c d =
    let ja = from_start columns regions j column some a in
    let jb = before_start columns regions (j + 1) column some b in
    let kc = from_start columns regions k column some c in
    let kd = before_start columns regions (k + 1) column some d in
    let jk : j * columns < (k + 1) * columns = omega arith in
    let kj : k * columns < (j + 1) * columns = omega arith in
    same j k columns jk kj
  where
    factor : (m n c : ℕ) → m * c < n * c → m < n
    factor m n c lt = elim (cases_lt m n) [
      | inl less ↦ less
      | inr le ↦ absurd (let over : n * c ≤ m * c = mul-le-mul le (omega arith) in omega arith)
    ]

    same : (j k c : ℕ) → j * c < (k + 1) * c → k * c < (j + 1) * c → j ≡ k
    same j k c p q = let a = factor j (k + 1) c p in let b = factor k (j + 1) c q in omega arith

-- the owner of a column by one division
pub owner_is : (columns regions column : ℕ) → 1 ≤ regions → column < columns →
    (((column + 1) * regions - 1) / columns < regions)
    × (start columns regions (((column + 1) * regions - 1) / columns) ≤ column)
    × (column < start columns regions (((column + 1) * regions - 1) / columns + 1))
owner_is columns regions column some within =
    let n = (column + 1) * regions - 1 in
    let k = n / columns in
    let first : 1 ≤ column + 1 = omega arith in
    let last : column + 1 ≤ columns = omega arith in
    let same : regions ≤ regions = omega arith in
    let same_columns : columns ≤ columns = omega arith in
    let one : 1 * 1 ≤ (column + 1) * regions = mul-le-mul first some in
    let q = le-div_iff_mul-le {k = columns} {x = k} {y = n} (omega arith) in
    let whole : k * columns ≤ n = q.0 (omega arith) in
    let p = le-div_iff_mul-le {k = columns} {x = k + 1} {y = n} (omega arith) in
    let past : n < (k + 1) * columns = elim (cases_lt n ((k + 1) * columns)) [
      | inl lt ↦ lt
      | inr le ↦ absurd (let over : k + 1 ≤ n / columns = p.1 le in omega arith)
    ] in
    let room : (column + 1) * regions ≤ columns * regions = mul-le-mul last same in
    let l = le-div_iff_mul-le {k = regions} {x = column + 1} {y = k * columns} (omega arith) in
    let h = le-div_iff_mul-le {k = regions} {x = column + 1} {y = (k + 1) * columns} (omega arith) in (
      elim (cases_lt k regions) [
        | inl lt ↦ lt
        | inr le ↦ absurd (let over : regions * columns ≤ k * columns = mul-le-mul le same_columns in omega arith)
      ],
      elim (cases_lt column (start columns regions k)) [
        | inl lt ↦
            let here : column + 1 ≤ k * columns / regions = omega arith in
            let over : (column + 1) * regions ≤ k * columns = l.0 here in
            absurd (omega arith)
        | inr le ↦ le
      ],
      (let end : column + 1 ≤ (k + 1) * columns / regions = h.1 (omega arith) in omega arith),
    )
