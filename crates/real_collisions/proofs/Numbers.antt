-- Products of whole numbers in other orders.
use Rattle.std.proofs.Common.{◌≡◌, ◌+◌, ◌*◌, sym, ap, ◌∙◌, refl, arith}
use Rattle.std.specs.Prelude.{ℤ, pos, neg_ℤ, ◌-ℤ◌, ◌*ℤ◌}
use Rattle.std.proofs.lemmas.Int.{ints}
use Rattle.std.proofs.Math.IntN.{*ℤ_comm}
use borrow.Author.Differences.{up, down, product_is, same_in}
use Rattle.event_rules.proofs.Within.{minus_times, product_sides}

pub times_times : (k m n : ℤ) → (k *ℤ m) *ℤ n ≡ k *ℤ (m *ℤ n)
times_times k m n =
    let first = product_is k m in
    let last = product_is m n in
    let left =
    product_sides (k *ℤ m) n (up k * up m + down k * down m) (up k * down m + down k * up m) (up n) (down n)
    first.0 first.1 refl refl in
    let right =
    product_sides k (m *ℤ n) (up k) (down k) (up m * up n + down m * down n) (up m * down n + down m * up n)
    refl refl last.0 last.1 in
    same_in ((k *ℤ m) *ℤ n) (k *ℤ (m *ℤ n)) (omega arith)

pub times_across : (x k v : ℤ) → (x *ℤ k) *ℤ v ≡ (x *ℤ v) *ℤ k
times_across x k v = times_times x k v ∙ ap (λ (z : ℤ). x *ℤ z) (*ℤ_comm k v) ∙ sym (times_times x v k)

pub times_both : (x k v l : ℤ) → (x *ℤ k) *ℤ (v *ℤ l) ≡ (x *ℤ v) *ℤ (k *ℤ l)
times_both x k v l =
    times_across x k (v *ℤ l) ∙ ap (λ (z : ℤ). z *ℤ k) (sym (times_times x v l))
    ∙ times_across (x *ℤ v) l k ∙ times_times (x *ℤ v) k l

pub times_minus : (k m n : ℤ) → k *ℤ (m -ℤ n) ≡ (k *ℤ m) -ℤ (k *ℤ n)
times_minus k m n = *ℤ_comm k (m -ℤ n) ∙ minus_times m n k ∙ (λ i. *ℤ_comm m k i -ℤ *ℤ_comm n k i)

pub times_negative : (k n : ℤ) → k *ℤ neg_ℤ n ≡ neg_ℤ (k *ℤ n)
times_negative k n =
    let less : neg_ℤ n ≡ pos 0 -ℤ n = omega (arith, ints) in
    let whole = ap (λ (z : ℤ). k *ℤ z) less ∙ times_minus k (pos 0) n in
    omega (arith, ints)
