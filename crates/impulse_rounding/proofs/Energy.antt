-- How far the energy moves, in whole numbers.
--
-- r = (x, y) and J = (s, t) here have no sign, and u = (a - b, c - d) with r·u = -g. Along r and
-- across it, J misses the exact impulse by m and n, and u is g and k.
use Rattle.std.proofs.Common.{◌≡◌, ◌⊎◌, inl, inr, ℕ, ◌+◌, ◌-◌, ◌*◌, ◌<◌, ◌≤◌, ap, arith}
use Rattle.std.proofs.Math.Nat.{mul-le-mul, le_of_mul-le-mul_left}
use Rattle.std.proofs.lemmas.Nat.{mul-lt}
use Rattle.std.proofs.lemmas.Bool.{cases_lt}
use Rattle.impulse_rounding.proofs.Sizes.{twice_product}

-- u and v are m apart
abbrev pub Apart : ℕ → ℕ → ℕ → Type 0
Apart u v m = (u ≡ v + m) ⊎ (v ≡ u + m)

pub apart : (u v : ℕ) → Apart u v (u - v + (v - u))
apart u v = elim (cases_lt u v) [ inl h ↦ inr (omega arith) | inr h ↦ inl (omega arith) ]

-- m² = (u - v)²
square_over : (u v m : ℕ) → u ≡ v + m → m * m + 2 * (u * v) ≡ u * u + v * v
square_over u v m e = rw e (omega arith)

apart_square : (u v m : ℕ) → Apart u v m → m * m + 2 * (u * v) ≡ u * u + v * v
apart_square u v m h = elim h [
  | inl e ↦ square_over u v m e
  | inr e ↦ omega (arith, square_over v u m e)
]

-- |(u - v) (w - z)| is at most n k
product_over : (u v w z n k : ℕ) → u ≡ v + n → w ≡ z + k → u * w + v * z ≡ u * z + v * w + n * k
product_over u v w z n k e f = rw (e, f) (omega arith)

apart_product : (u v w z n k : ℕ) → Apart u v n → Apart w z k
    → (u * w + v * z ≤ u * z + v * w + n * k) × (u * z + v * w ≤ u * w + v * z + n * k)
apart_product u v w z n k h l =
    elim h [
      | inl e ↦ elim l [
        | inl f ↦ let same = product_over u v w z n k e f in (omega arith, omega arith)
        | inr f ↦ let same = product_over u v z w n k e f in (omega arith, omega arith)
      ]
      | inr e ↦ elim l [
        | inl f ↦ let same = product_over v u w z n k e f in (omega arith, omega arith)
        | inr f ↦ let same = product_over v u z w n k e f in (omega arith, omega arith)
      ]
    ]

-- j (j - g) lies between -g m and m m + g m
along_over : (j g m : ℕ) → j ≡ g + m → j * j ≡ j * g + m * m + g * m
along_over j g m e = rw e (omega arith)

along_under : (j g m : ℕ) → g ≡ j + m → (j * j ≤ j * g) × (j * g ≤ j * j + g * m)
along_under j g m e = rw e (omega arith, omega arith)

apart_along : (j g m : ℕ) → Apart j g m → (j * j ≤ j * g + m * m + g * m) × (j * g ≤ j * j + g * m)
apart_along j g m h =
    elim h [
      | inl e ↦ (omega (arith, along_over j g m e), omega (arith, along_over j g m e))
      | inr e ↦ (omega (arith, along_under j g m e), omega (arith, along_under j g m e))
    ]

-- a square root keeps the order
pub root_le : (a b : ℕ) → a * a ≤ b * b → a ≤ b
root_le a b h = elim (cases_lt b a) [
  | inl l ↦ absurd (omega (arith, mul-lt b b a a l l))
  | inr l ↦ l
]

-- r·u and r×u have the size of u times that of r
across_bound : (x y a b c d g k : ℕ) → g + (x * a + y * c) ≡ x * b + y * d →
    Apart (x * c + y * b) (x * d + y * a) k →
    g * g + k * k ≤ (x * x + y * y) * ((a + b + c + d) * (a + b + c + d))
across_bound x y a b c d g k e h =
    let along = square_over (x * b + y * d) (x * a + y * c) g (omega arith) in
    let across = apart_square (x * c + y * b) (x * d + y * a) k h in
    omega arith

-- how far J misses, squared: along r and across it
miss_square : (x y s t g m n : ℕ) → Apart (x * s + y * t) g m → Apart (x * t) (y * s) n →
    m * m + n * n + 2 * (g * (x * s + y * t)) ≡ (x * x + y * y) * (s * s + t * t) + g * g
miss_square x y s t g m n hm hn =
    let along = apart_square (x * s + y * t) g m hm in
    let across = apart_square (x * t) (y * s) n hn in
    omega arith

-- and the same over r·r by its two components
component_square : (x y s t g l e f : ℕ) → l ≡ x * x + y * y → Apart (l * s) (g * x) e →
    Apart (l * t) (g * y) f →
    e * e + f * f + 2 * (l * (g * (x * s + y * t))) ≡ l * (l * (s * s + t * t)) + l * (g * g)
component_square x y s t g l e f h he hf =
    let first = apart_square (l * s) (g * x) e he in
    let second = apart_square (l * t) (g * y) f hf in
    let square : l * (g * g) ≡ (x * x + y * y) * (g * g) = ap (λ i. i * (g * g)) h in
    omega arith

-- m² + n² is at most 2 r·r if both components miss by at most one
miss_bound : (x y s t g l m n e f : ℕ) → l ≡ x * x + y * y → 0 < l → Apart (x * s + y * t) g m →
    Apart (x * t) (y * s) n → Apart (l * s) (g * x) e → Apart (l * t) (g * y) f → e ≤ l → f ≤ l →
    m * m + n * n ≤ 2 * l
miss_bound x y s t g l m n e f h positive hm hn he hf be bf =
    let j = x * s + y * t in
    let jj = s * s + t * t in
    let whole : m * m + n * n + 2 * (g * j) ≡ l * jj + g * g =
    rw h (miss_square x y s t g m n hm hn) in
    let parts = component_square x y s t g l e f h he hf in
    let scaled : l * (m * m + n * n + 2 * (g * j)) ≡ l * (l * jj + g * g) = ap (λ i. l * i) whole in
    let first : e * e ≤ l * l = mul-le-mul be be in
    let second : f * f ≤ l * l = mul-le-mul bf bf in
    let times_l : l * (m * m + n * n) ≤ l * (2 * l) = omega arith in
    le_of_mul-le-mul_left times_l positive

-- (g, k)·(m, n) is at most the product of their lengths
cauchy : (g k m n : ℕ) → (g * m + k * n) * (g * m + k * n) ≤ (g * g + k * k) * (m * m + n * n)
cauchy g k m n = omega (arith, twice_product (g * n) (k * m))

-- so it is at most three halves of r·r times the size w of u
cross_bound : (g k m n l w : ℕ) → g * g + k * k ≤ l * (w * w) → m * m + n * n ≤ 2 * l →
    2 * (g * m + k * n) ≤ 3 * (l * w)
cross_bound g k m n l w hu hm =
    let i = g * m + k * n in
    let j = (g * g + k * k) * (m * m + n * n) in
    let most : j ≤ (l * (w * w)) * (2 * l) = mul-le-mul hu hm in
    root_le (2 * i) (3 * (l * w)) (root_sizes i j l w (cauchy g k m n) most)
  where
    root_sizes : (i j l w : ℕ) → i * i ≤ j → j ≤ (l * (w * w)) * (2 * l) →
        (2 * i) * (2 * i) ≤ (3 * (l * w)) * (3 * (l * w))
    root_sizes i j l w c p = omega arith

-- r·r times J·J and J·u, by their parts along r and across it
along_across_square : (x y s t n : ℕ) → Apart (x * t) (y * s) n →
    (x * x + y * y) * (s * s + t * t) ≡ (x * s + y * t) * (x * s + y * t) + n * n
along_across_square x y s t n h =
    let across = apart_square (x * t) (y * s) n h in
    omega arith

along_across : (x y s t a b c d g : ℕ) → g + (x * a + y * c) ≡ x * b + y * d →
    (x * x + y * y) * (s * a + t * c) + (x * s + y * t) * g
    + ((x * t) * (x * d + y * a) + (y * s) * (x * c + y * b))
    ≡ (x * x + y * y) * (s * b + t * d)
    + ((x * t) * (x * c + y * b) + (y * s) * (x * d + y * a))
along_across x y s t a b c d g e =
    let j = x * s + y * t in
    let along : j * (g + (x * a + y * c)) ≡ j * (x * b + y * d) = ap (λ i. j * i) e in
    omega arith

-- J·J + J·u lies between -(g m + k n) and m m + n n + g m + k n, over r·r
parts : (x y s t a b c d g k m n : ℕ) → g + (x * a + y * c) ≡ x * b + y * d →
    Apart (x * c + y * b) (x * d + y * a) k → Apart (x * s + y * t) g m → Apart (x * t) (y * s) n →
    ((x * x + y * y) * (s * s + t * t + (s * a + t * c))
    ≤ (x * x + y * y) * (s * b + t * d) + (m * m + n * n) + (g * m + k * n))
    × ((x * x + y * y) * (s * b + t * d)
    ≤ (x * x + y * y) * (s * s + t * t + (s * a + t * c)) + (g * m + k * n))
parts x y s t a b c d g k m n e hk hm hn =
    let squares = along_across_square x y s t n hn in
    let products = along_across x y s t a b c d g e in
    let over = x * c + y * b in
    let under = x * d + y * a in
    let across = apart_product (x * t) (y * s) over under n k hn hk in
    let along = apart_along (x * s + y * t) g m hm in
    parts_sum (x * x + y * y) (s * s + t * t) (s * a + t * c) (s * b + t * d) (x * s + y * t)
    g m n k ((x * t) * under + (y * s) * over) ((x * t) * over + (y * s) * under)
    squares products (omega (arith, across)) (omega (arith, across)) along
  where
    parts_sum : (l jj ja jb j g m n k v w : ℕ) → l * jj ≡ j * j + n * n →
        l * ja + j * g + v ≡ l * jb + w → w ≤ v + n * k → v ≤ w + n * k →
        (j * j ≤ j * g + m * m + g * m) × (j * g ≤ j * j + g * m) →
        (l * (jj + ja) ≤ l * jb + (m * m + n * n) + (g * m + k * n))
        × (l * jb ≤ l * (jj + ja) + (g * m + k * n))
    parts_sum l jj ja jb j g m n k v w squares products p q along = (omega arith, omega arith)

-- the energy moves by at most three times the sizes of u, and 4
pub kept : (x y s t a b c d g l : ℕ) → l ≡ x * x + y * y → 0 < l →
    g + (x * a + y * c) ≡ x * b + y * d → l * s ≤ g * x + l → g * x ≤ l * s + l →
    l * t ≤ g * y + l → g * y ≤ l * t + l →
    (2 * (s * s + t * t) + 2 * (s * a + t * c) ≤ 2 * (s * b + t * d) + (3 * (a + b + c + d) + 4))
    × (2 * (s * b + t * d) ≤ 2 * (s * s + t * t) + 2 * (s * a + t * c) + (3 * (a + b + c + d) + 4))
kept x y s t a b c d g l h positive e sl su tl tu =
    let k = x * c + y * b - (x * d + y * a) + (x * d + y * a - (x * c + y * b)) in
    let m = x * s + y * t - g + (g - (x * s + y * t)) in
    let n = x * t - y * s + (y * s - x * t) in
    let w = a + b + c + d in
    let hk = apart (x * c + y * b) (x * d + y * a) in
    let hm = apart (x * s + y * t) g in
    let hn = apart (x * t) (y * s) in
    let miss : m * m + n * n ≤ 2 * l =
    miss_bound x y s t g l m n (l * s - g * x + (g * x - l * s)) (l * t - g * y + (g * y - l * t))
    h positive hm hn (apart (l * s) (g * x)) (apart (l * t) (g * y))
    (within (l * s) (g * x) l sl su) (within (l * t) (g * y) l tl tu) in
    let size : g * g + k * k ≤ l * (w * w) = rw h (across_bound x y a b c d g k e hk) in
    let cross : 2 * (g * m + k * n) ≤ 3 * (l * w) = cross_bound g k m n l w size miss in
    let both = parts x y s t a b c d g k m n e hk hm hn in
    kept_over l (s * s + t * t) (s * a + t * c) (s * b + t * d) w (m * m + n * n) (g * m + k * n)
    positive miss cross (rw h both.0) (rw h both.1)
  where
    within : (u v w : ℕ) → u ≤ v + w → v ≤ u + w → u - v + (v - u) ≤ w
    within u v w p q = omega arith

    kept_over : (l jj ja jb w mm z : ℕ) → 0 < l → mm ≤ 2 * l → 2 * z ≤ 3 * (l * w) →
        l * (jj + ja) ≤ l * jb + mm + z → l * jb ≤ l * (jj + ja) + z →
        (2 * jj + 2 * ja ≤ 2 * jb + (3 * w + 4)) × (2 * jb ≤ 2 * jj + 2 * ja + (3 * w + 4))
    kept_over l jj ja jb w mm z positive miss cross p q =
        let more : l * (2 * jj + 2 * ja) ≤ l * (2 * jb + (3 * w + 4)) = omega arith in
        let less : l * (2 * jb) ≤ l * (2 * jj + 2 * ja + (3 * w + 4)) = omega arith in
        (le_of_mul-le-mul_left more positive, le_of_mul-le-mul_left less positive)
