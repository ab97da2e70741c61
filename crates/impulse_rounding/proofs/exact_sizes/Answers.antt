-- The quotients exist and are small.
use Rattle.std.proofs.Common.{rules, arith, ◌≡◌, ℕ, ◌-◌, ◌*◌, ◌^◌, ◌<◌, ◌≤◌, nat_abs}
use Rattle.std.proofs.Math.Nat.{mul-le-mul}
use mir.Syntax.{w128}
use mir.Val.{Fits}
use Rattle.plane_vectors.specs.Vectors.{dot}
use Rattle.impulse_rounding.proofs.Signed.{dot_bound}
use Rattle.impulse_rounding.proofs.Exact.{square_positive, small}
use Rattle.impulse_rounding.proofs.exact_sizes.Goals as goal

-- a product of two numbers of 64 bits has 128
product_fits : (a b m n : ℕ) → a ≡ m → b ≡ n → m < 2 ^ 64 → n < 2 ^ 64 → Fits w128 (a * b)
product_fits a b m n e f h k =
    let first : a ≤ 2 ^ 64 - 1 = omega arith in
    let second : b ≤ 2 ^ 64 - 1 = omega arith in
    let most : a * b ≤ (2 ^ 64 - 1) * (2 ^ 64 - 1) = mul-le-mul first second in
    record { fits = omega arith }

-- These follow from the products alone. That is said here, as the search for them is long otherwise.
pub returns-clause-x : goal.returns-clause-x
returns-clause-x c = search rules

pub returns-clause-y : goal.returns-clause-y
returns-clause-y c = search rules

pub returns-clause-divisor : goal.returns-clause-divisor
returns-clause-divisor c = search rules

pub returns-clause-x_size : goal.returns-clause-x_size
returns-clause-x_size c =
    let b = nat_abs (dot c.args.r c.args.u) in
    let x : c.from-closing.result * c.from.result ≡ b * nat_abs c.args.r.x = returns-clause-x c in
    let divisor : c.unsigned_abs-4.result ≡ nat_abs (dot c.args.r c.args.r) = returns-clause-divisor c in
    rw (x, divisor) (small c.args.r c.args.u c.requires.u_size).x

pub returns-clause-y_size : goal.returns-clause-y_size
returns-clause-y_size c =
    let b = nat_abs (dot c.args.r c.args.u) in
    let y : c.from-closing.result * c.from-2.result ≡ b * nat_abs c.args.r.y = returns-clause-y c in
    let divisor : c.unsigned_abs-4.result ≡ nat_abs (dot c.args.r c.args.r) = returns-clause-divisor c in
    rw (y, divisor) (small c.args.r c.args.u c.requires.u_size).y

pub returns-clause-divisor_size : goal.returns-clause-divisor_size
returns-clause-divisor_size c =
    let divisor : c.unsigned_abs-4.result ≡ nat_abs (dot c.args.r c.args.r) = returns-clause-divisor c in
    rw divisor (dot_bound c.args.r c.args.r c.requires.r_size c.requires.r_size)

pub returns-clause-positive : goal.returns-clause-positive
returns-clause-positive c =
    let divisor : c.unsigned_abs-4.result ≡ nat_abs (dot c.args.r c.args.r) = returns-clause-divisor c in
    rw divisor (square_positive c.args.r c.args.u c.requires.approaching)

pub overflow_mul-result : goal.overflow_mul-result
overflow_mul-result c =
    product_fits _ _ _ _ c.from-closing.ensures c.from.ensures c.unsigned_abs.type_inv c.unsigned_abs-2.type_inv

pub overflow_mul-result-2 : goal.overflow_mul-result-2
overflow_mul-result-2 c =
    product_fits _ _ _ _ c.from-closing.ensures c.from-2.ensures c.unsigned_abs.type_inv c.unsigned_abs-3.type_inv
