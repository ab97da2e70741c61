-- The sizes of the impulse: quotients whose divisor is a sum of two squares.
use Rattle.std.proofs.Common.{◌≡◌, ℕ, zero, suc, ◌+◌, ◌*◌, ◌^◌, ◌<◌, ◌≤◌, ap, arith}
use Rattle.std.proofs.Math.Nat.{mul-le-mul_left, mul-le-mul_right, le_of_mul-le-mul_right}
use Rattle.impulse_rounding.specs.Impulse.{ceiling}

-- (x - y)² is at least 0
pub twice_product : (x y : ℕ) → 2 * (x * y) ≤ x * x + y * y
twice_product zero y = omega arith
twice_product (suc x) zero = omega arith
twice_product (suc x) (suc y) = omega (arith, twice_product x y)

-- if r·u isn't 0, r·r isn't
pub some_square : (x y u v b : ℕ) → 0 < b → b ≤ x * u + y * v → 0 < x * x + y * y
some_square zero zero u v b h k = omega arith
some_square (suc x) y u v b h k = omega arith
some_square zero (suc y) u v b h k = omega arith

-- b x / r·r and b y / r·r, if b is at most |x u| + |y v|: the components' sizes
pub quotient_bounds : (x y u v b : ℕ) → u ≤ 2 ^ 21 → v ≤ 2 ^ 21 → b ≤ x * u + y * v →
    (b * x ≤ 2 ^ 22 * (x * x + y * y)) × (b * y ≤ 2 ^ 22 * (x * x + y * y))
quotient_bounds x y u v b hu hv hb =
    let hx : x * u ≤ x * 2 ^ 21 = mul-le-mul_left x hu in
    let hy : y * v ≤ y * 2 ^ 21 = mul-le-mul_left y hv in
    let h : b ≤ 2 ^ 21 * (x + y) = omega arith in
    let kx : b * x ≤ (2 ^ 21 * (x + y)) * x = mul-le-mul_right x h in
    let ky : b * y ≤ (2 ^ 21 * (x + y)) * y = mul-le-mul_right y h in
    (omega (arith, twice_product x y), omega (arith, twice_product x y))

pub ceiling_above : (n d : ℕ) → 0 < d → n ≤ ceiling n d * d
ceiling_above n d h = grind arith

-- sizes rounded up part the two at least as fast as they came
pub rounded_up_reach : (x y b s t n : ℕ) → n ≡ x * x + y * y → 0 < n → b * x ≤ s * n →
    b * y ≤ t * n → b ≤ x * s + y * t
rounded_up_reach x y b s t n e h hx hy =
    let kx : x * (b * x) ≤ x * (s * n) = mul-le-mul_left x hx in
    let ky : y * (b * y) ≤ y * (t * n) = mul-le-mul_left y hy in
    let eb : b * n ≡ b * (x * x + y * y) = ap (λ m. b * m) e in
    let k : b * n ≤ (x * s + y * t) * n = omega arith in
    le_of_mul-le-mul_right k h
