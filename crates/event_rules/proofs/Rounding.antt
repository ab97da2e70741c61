-- What is left of a comparison of products where its numbers are rounded to 32 bits.
use Rattle.std.proofs.Common.{◌≡◌, ℕ, suc, ◌+◌, ◌-◌, ◌*◌, ◌/◌, ◌%◌, ◌^◌, ◌<◌, ◌≤◌, arith, sym, ap, subst, ◌∙◌, FitsSigned, inl, inr}
use Rattle.std.specs.Prelude.{ℤ, pos, negsuc, nat_abs, ◌-ℤ◌, ◌*ℤ◌, ◌≤ℤ◌, ◌<ℤ◌}
use Rattle.std.specs.Int.{int_wrap, w64, leading_zeros}
use Rattle.std.proofs.lemmas.Int.{ints, int_wrap_fits}
use Rattle.std.proofs.lemmas.Bool.{cases_lt}
use Rattle.std.proofs.lemmas.Nat.{pow-add, pow_pos, div_below, div-add-mod', leading_length}
use Rattle.std.proofs.Math.Nat.{mul-le-mul, mul-le-mul_right, div-mul-le_self, mod-lt, pow-le-pow_right}
use Rattle.event_rules.specs.Scale.{bits_past, bits_from, rounded_down, rounded_up, CrossRounded}

-- ---- rounding
down_least : (bits : ℕ) (n : ℤ) → rounded_down bits n * 2 ^ bits ≤ nat_abs n
down_least bits n = div-mul-le_self (nat_abs n) (2 ^ bits)

pub down_size : (bits : ℕ) (n : ℤ) (most : ℕ) → nat_abs n ≤ most * 2 ^ bits → rounded_down bits n ≤ most
down_size bits n most h = below (nat_abs n) (2 ^ bits) most (pow_pos bits) h
  where
    below : (n k most : ℕ) → 0 < k → n ≤ most * k → n / k ≤ most
    below n k most p h =
        let less : n / k < suc most = div_below n k (suc most) p (omega arith) in
        omega arith

up_most : (bits : ℕ) (n : ℤ) → nat_abs n ≤ rounded_up bits n * 2 ^ bits
up_most bits n = above (nat_abs n) (2 ^ bits) (pow_pos bits)
  where
    above : (n k : ℕ) → 0 < k → n ≤ (n + (k - 1)) / k * k
    above n k p =
        let whole = div-add-mod' (n + (k - 1)) k in
        let rest : (n + (k - 1)) % k < k = mod-lt (n + (k - 1)) p in
        omega arith

pub up_size : (bits : ℕ) (n : ℤ) (most : ℕ) → nat_abs n ≤ most * 2 ^ bits → rounded_up bits n ≤ most
up_size bits n most h = below (nat_abs n) (2 ^ bits) most (pow_pos bits) h
  where
    below : (n k most : ℕ) → 0 < k → n ≤ most * k → (n + (k - 1)) / k ≤ most
    below n k most p h =
        let less : (n + (k - 1)) / k < suc most = div_below (n + (k - 1)) k (suc most) p (omega arith) in
        omega arith

-- ---- the comparison
-- what is less in whole numbers is less in rounded ones
less_rounded : (a c b x y z a' c' b' : ℕ) → 0 < x * y → z * z ≡ x * y → a' * x ≤ a → c' * y ≤ c → b ≤ b' * z → a * c < b * b → a' * c' < b' * b'
less_rounded a c b x y z a' c' b' p is la lc lb lt =
    let least : (a' * x) * (c' * y) ≤ a * c = mul-le-mul la lc in
    let most : b * b ≤ (b' * z) * (b' * z) = mul-le-mul lb lb in
    elim (cases_lt (a' * c') (b' * b')) [
      | inl h ↦ h
      | inr h ↦ absurd (
          let times : (b' * b') * (x * y) ≤ (a' * c') * (x * y) = mul-le-mul_right (x * y) h in
          let square : (b' * z) * (b' * z) ≡ (b' * b') * (x * y) = regroup b' z ∙ ap (λ (n : ℕ). (b' * b') * n) is in
          let product : (a' * x) * (c' * y) ≡ (a' * c') * (x * y) = omega arith in
          far (a * c) (b * b) ((a' * x) * (c' * y)) ((b' * z) * (b' * z)) ((a' * c') * (x * y)) ((b' * b') * (x * y)) least most lt times square product
          )
    ]
  where
    regroup : (b' z : ℕ) → (b' * z) * (b' * z) ≡ (b' * b') * (z * z)
    regroup b' z = omega arith

    far : (m n l g u v : ℕ) → l ≤ m → n ≤ g → m < n → v ≤ u → g ≡ v → l ≡ u → ⊥
    far m n l g u v h k lt le e f = omega arith

-- so disks whose courses cross are told to
pub rounded : (speeds places : ℕ) (a b c : ℤ) → pos 0 ≤ℤ a → b <ℤ pos 0 → (a *ℤ c) <ℤ (b *ℤ b) → CrossRounded speeds places a b c
rounded speeds places a b c p nearing crossing = record {
  nearing = nearing;
  crossing = λ apart.
      less_rounded (nat_abs a) (nat_abs c) (nat_abs b) (2 ^ (2 * speeds)) (2 ^ (2 * places)) (2 ^ (speeds + places))
      (rounded_down (2 * speeds) a) (rounded_down (2 * places) c) (rounded_up (speeds + places) b)
      (positive speeds places) (powers speeds places) (down_least (2 * speeds) a) (down_least (2 * places) c) (up_most (speeds + places) b)
      (sizes a b c p apart crossing);
}
  where
    positive : (p q : ℕ) → 0 < 2 ^ (2 * p) * 2 ^ (2 * q)
    positive p q = subst (λ (n : ℕ). 0 < n) (pow-add 2 (2 * p) (2 * q)) (pow_pos (2 * p + 2 * q))

    powers : (p q : ℕ) → 2 ^ (p + q) * 2 ^ (p + q) ≡ 2 ^ (2 * p) * 2 ^ (2 * q)
    powers p q = sym (pow-add 2 (p + q) (p + q)) ∙ ap (λ (n : ℕ). 2 ^ n) (same p q) ∙ pow-add 2 (2 * p) (2 * q)
      where
        same : (p q : ℕ) → (p + q) + (p + q) ≡ 2 * p + 2 * q
        same p q = omega arith

    sizes : (a b c : ℤ) → pos 0 ≤ℤ a → pos 0 ≤ℤ c → (a *ℤ c) <ℤ (b *ℤ b) → nat_abs a * nat_abs c < nat_abs b * nat_abs b
    sizes (pos a) (pos b) (pos c) p q lt = omega (arith, ints)
    sizes (pos a) (negsuc b) (pos c) p q lt = omega (arith, ints)
    sizes (negsuc a) b c p q lt = absurd (omega (arith, ints))
    sizes (pos a) b (negsuc c) p q lt = absurd (omega (arith, ints))

-- where nothing is shifted the comparison is that of the whole numbers
pub unshifted : (speeds places : ℕ) (a b c : ℤ) → speeds ≡ 0 → places ≡ 0 → pos 0 ≤ℤ a → CrossRounded speeds places a b c → (a *ℤ c) <ℤ (b *ℤ b)
unshifted speeds places a b c es ep p h = exact a b c p (subst (λ (n : ℕ). CrossRounded 0 n a b c) ep (subst (λ (n : ℕ). CrossRounded n places a b c) es h))
  where
    whole : (a c b : ℕ) → a / 1 ≡ a → c / 1 ≡ c → (suc b + 0) / 1 ≡ suc b →
        (a / 1) * (c / 1) < ((suc b + 0) / 1) * ((suc b + 0) / 1) → a * c < suc b * suc b
    whole a c b ea ec eb lt = rw (← ea, ← ec, ← eb) lt

    exact : (a b c : ℤ) → pos 0 ≤ℤ a → CrossRounded 0 0 a b c → (a *ℤ c) <ℤ (b *ℤ b)
    exact (pos a) (negsuc b) (pos c) p h =
        let first : a / 1 ≡ a = omega arith in
        let second : c / 1 ≡ c = omega arith in
        let up : (suc b + 0) / 1 ≡ suc b = omega arith in
        let less : a * c < suc b * suc b = whole a c b first second up (h.crossing (omega (arith, ints))) in
        omega (arith, ints)
    exact (pos a) (negsuc b) (negsuc c) p h = omega (arith, ints)
    exact (pos a) (pos b) c p h = absurd (let near = h.nearing in omega (arith, ints))
    exact (negsuc a) b c p h = absurd (omega (arith, ints))

-- ---- 32 bits
-- a number that isn't negative, shifted
pub down_shifted : (bits : ℕ) (n : ℤ) → pos 0 ≤ℤ n → nat_abs n ≤ 2147483648 * 2 ^ bits → bits_from bits n ≡ pos (rounded_down bits n)
down_shifted bits (pos n) p h =
    let size : n / 2 ^ bits ≤ 2147483648 = down_size bits (pos n) 2147483648 h in
    ap pos (low (n / 2 ^ bits) size)
  where
    low : (m : ℕ) → m ≤ 2147483648 → m % 4294967296 ≡ m
    low m h = omega arith
down_shifted bits (negsuc n) p h = absurd (omega (arith, ints))

-- and the opposite of a negative one, which is rounded up
pub up_shifted : (bits : ℕ) (n : ℤ) → bits ≤ 23 → n <ℤ pos 0 → nat_abs n ≤ 2147483648 * 2 ^ bits →
    bits_from bits (int_wrap w64 (pos (2 ^ bits - 1) -ℤ n)) ≡ pos (rounded_up bits n)
up_shifted bits n few lt h =
    let power : 2 ^ bits ≤ 2 ^ 23 = pow-le-pow_right (omega arith) few in
    let whole : (pos (2 ^ bits - 1) -ℤ n) ≡ pos (nat_abs n + (2 ^ bits - 1)) = opposite n (2 ^ bits - 1) lt in
    let fits : FitsSigned w64 (pos (nat_abs n + (2 ^ bits - 1))) = small (nat_abs n) (2 ^ bits) power h in
    let size : (nat_abs n + (2 ^ bits - 1)) / 2 ^ bits ≤ 2147483648 = up_size bits n 2147483648 h in
    ap (λ (z : ℤ). bits_from bits (int_wrap w64 z)) whole ∙ ap (bits_from bits) (int_wrap_fits w64 (pos (nat_abs n + (2 ^ bits - 1))) fits)
    ∙ ap pos (low ((nat_abs n + (2 ^ bits - 1)) / 2 ^ bits) size)
  where
    opposite : (n : ℤ) (k : ℕ) → n <ℤ pos 0 → (pos k -ℤ n) ≡ pos (nat_abs n + k)
    opposite n k lt = omega (arith, ints)

    small : (m k : ℕ) → k ≤ 2 ^ 23 → m ≤ 2147483648 * k → FitsSigned w64 (pos (m + (k - 1)))
    small m k h l = omega (arith, ints)

    low : (m : ℕ) → m ≤ 2147483648 → m % 4294967296 ≡ m
    low m h = omega arith

-- ---- how many bits numbers have
-- a number is below 2 to the bits that it has
pub enough_bits : (bits : ℕ) (n : ℤ) → pos 0 ≤ℤ n → n ≤ℤ pos 1073741824 → nat_abs n < 2 ^ (bits + bits_past bits n)
enough_bits bits (pos n) p h =
    let m = leading_length 64 n (omega (arith, ints)) in
    enough bits n m.0 (leading_zeros w64 n) m.1 m.2
  where
    enough : (k n m z : ℕ) → z + m ≡ 64 → n < 2 ^ m → n < 2 ^ (k + ((64 - z) - k))
    enough k n m z e lt =
        let le : m ≤ k + ((64 - z) - k) = omega arith in
        let power : 2 ^ m ≤ 2 ^ (k + ((64 - z) - k)) = pow-le-pow_right (omega arith) le in
        omega arith
enough_bits bits (negsuc n) p h = absurd (omega (arith, ints))

-- and few of them lie beyond those
pub few_bits : (bits most : ℕ) (n : ℤ) → most ≤ 30 → pos 0 ≤ℤ n → nat_abs n ≤ 2 ^ most → bits_past bits n ≤ suc most - bits
few_bits bits most (pos n) few p h =
    let power : 2 ^ most ≤ 2 ^ 30 = pow-le-pow_right (omega arith) few in
    let m = leading_length 64 n (omega arith) in
    let length : m.0 ≤ suc most = elim (cases_lt (suc most) m.0) [
      | inl lt ↦ absurd (
          let more : 2 ^ suc (suc most) ≤ 2 ^ m.0 = pow-le-pow_right (omega arith) lt in
          let some = pow_pos most in
          far (2 ^ suc (suc most)) (2 ^ m.0) (2 ^ most) n more m.3 h (four most) some
          )
      | inr le ↦ le
    ] in
    let all = m.1 in
    omega arith
  where
    four : (k : ℕ) → 2 ^ suc (suc k) ≡ 4 * 2 ^ k
    four k = ap (λ (n : ℕ). 2 ^ n) (two k) ∙ pow-add 2 2 k
      where
        two : (k : ℕ) → suc (suc k) ≡ 2 + k
        two k = omega arith

    far : (k l m n : ℕ) → k ≤ l → l ≤ 2 * n + 1 → n ≤ m → k ≡ 4 * m → 0 < m → ⊥
    far k l m n h le few is some = omega arith
few_bits bits most (negsuc n) few p h = absurd (omega (arith, ints))
