-- Products of sums and squares of whole numbers.
use Rattle.std.proofs.Common.{◌≡◌, ℕ, ◌*◌, ap, arith}
use Rattle.std.specs.Prelude.{ℤ, pos, negsuc, ◌+ℤ◌, ◌*ℤ◌, ◌≤ℤ◌}
use Rattle.std.proofs.lemmas.Int.{ints}
use borrow.Author.Differences.{up, down, sum_is_lem}

pub distributes : (a b c : ℤ) → (a +ℤ b) *ℤ c ≡ (a *ℤ c) +ℤ (b *ℤ c)
distributes a b c = omega (arith, ints, ap (λ (n : ℕ). n * up c) (sum_is_lem a b), ap (λ (n : ℕ). n * down c) (sum_is_lem a b))

pub square_of_sum : (a b : ℤ) → (a +ℤ b) *ℤ (a +ℤ b) ≡ ((a *ℤ a) +ℤ ((a *ℤ b) +ℤ (a *ℤ b))) +ℤ (b *ℤ b)
square_of_sum a b = omega (arith, ints, distributes a b (a +ℤ b), distributes a b a, distributes a b b)

pub square_not_negative : (a : ℤ) → pos 0 ≤ℤ (a *ℤ a)
square_not_negative (pos n) = omega (arith, ints)
square_not_negative (negsuc n) = omega (arith, ints)
