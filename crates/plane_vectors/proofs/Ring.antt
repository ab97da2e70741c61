-- Identities of whole numbers, by the two parts of each.
use Rattle.std.proofs.Common.{◌≡◌, ℕ, ◌+◌, ◌*◌, ap, arith}
use Rattle.std.specs.Prelude.{ℤ, pos, ◌+ℤ◌, ◌-ℤ◌, ◌*ℤ◌}
use Rattle.std.proofs.lemmas.Int.{ints}
use borrow.Author.Differences.{up, down, product_is}

-- a number is the difference of its two parts
unfoldable pub less : ℕ → ℕ → ℤ
less m n = pos m -ℤ pos n

pub of : (x : ℤ) → x ≡ less (up x) (down x)
unfolding less
of x = omega (arith, ints)

pub sum_of : (a b c d : ℕ) → less a b +ℤ less c d ≡ less (a + c) (b + d)
unfolding less
sum_of a b c d = omega (arith, ints)

pub less_of : (a b c d : ℕ) → less a b -ℤ less c d ≡ less (a + d) (b + c)
unfolding less
less_of a b c d = omega (arith, ints)

pub same_of : (a b c d : ℕ) → a + d ≡ c + b → less a b ≡ less c d
unfolding less
same_of a b c d e = omega (arith, ints)

-- a product of differences
parts_of : (a b : ℕ) → up (less a b) + b ≡ down (less a b) + a
unfolding less
parts_of a b = omega (arith, ints)

in_parts : (a b c d m n p q : ℕ) → m + b ≡ n + a → p + d ≡ q + c →
    (m * p + n * q) + (a * d + b * c) ≡ (m * q + n * p) + (a * c + b * d)
in_parts a b c d m n p q e f =
    let ep = ap (λ (z : ℕ). z * p) e in
    let eq = ap (λ (z : ℕ). z * q) e in
    let fa = ap (λ (z : ℕ). z * a) f in
    let fb = ap (λ (z : ℕ). z * b) f in
    omega arith

product_of : (a b c d : ℕ) (x y : ℤ) → up x + b ≡ down x + a → up y + d ≡ down y + c → x *ℤ y ≡ less (a * c + b * d) (a * d + b * c)
unfolding less
product_of a b c d x y e f =
    let product = product_is x y in
    let sides = in_parts a b c d (up x) (down x) (up y) (down y) e f in
    omega (arith, ints)

pub times_of : (a b c d : ℕ) → less a b *ℤ less c d ≡ less (a * c + b * d) (a * d + b * c)
times_of a b c d = product_of a b c d (less a b) (less c d) (parts_of a b) (parts_of c d)
