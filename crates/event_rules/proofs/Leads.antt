-- The places of two disks at the later of their base ticks, by how much later one of them is.
use Rattle.std.proofs.Common.{◌≡◌, ℕ, zero, suc, ◌+◌, ◌-◌, ◌/◌, ◌*◌, ◌^◌, ◌%◌, ◌<◌, ◌≤◌, max, ap, sym, ◌∙◌, arith, to_z, of_z}
use Rattle.std.specs.Prelude.{ℤ, pos, negsuc, nat_abs, FitsSigned, ◌+ℤ◌, ◌-ℤ◌, ◌*ℤ◌, ◌≤ℤ◌, ◌<ℤ◌}
use Rattle.std.specs.Int.{int_wrap, w64}
use Rattle.std.proofs.lemmas.Int.{ints, int_wrap_fits, to_z_pos, of_z-to_z}
use lib.Signed.{quot_z}
use Rattle.plane_vectors.proofs.Sizes.{size_of_product, sent}
use Rattle.plane_vectors.specs.Vectors.{vector, IsWithin}
use Rattle.fixed_motion.specs.declared.rules.Rules.{Rules}
use Rattle.fixed_motion.specs.declared.disk.Disk.{Disk}
use Rattle.fixed_motion.specs.Rules.{IsChecked}
use Rattle.fixed_motion.specs.Motion.{half_of, centre_of, velocity_of}
use Rattle.fixed_motion.proofs.Sizes.{inside_in_box, in_box_size, slow_size}
use Rattle.contact_predictor.specs.Contact.{coordinate_after}
use Rattle.event_rules.specs.Predict.{separation_of}
use Rattle.event_rules.specs.Pairs.{IsValidPair}

-- ---- places
back : (u : ℤ) (t : ℕ) → u *ℤ (pos 0 -ℤ pos t) ≡ pos 0 -ℤ (u *ℤ pos t)
back u zero = let none : pos 0 -ℤ pos 0 ≡ pos 0 = omega (arith, ints) in ap (λ (k : ℤ). u *ℤ k) none ∙ nothing u
  where
    nothing : (u : ℤ) → u *ℤ pos 0 ≡ pos 0 -ℤ (u *ℤ pos 0)
    nothing u = omega (arith, ints)
back u (suc t) = let minus : pos 0 -ℤ pos (suc t) ≡ negsuc t = omega (arith, ints) in ap (λ (k : ℤ). u *ℤ k) minus ∙ turned u t
  where
    turned : (u : ℤ) (t : ℕ) → u *ℤ negsuc t ≡ pos 0 -ℤ (u *ℤ pos (suc t))
    turned u t = omega (arith, ints)

pub way_fits : (x y w : ℤ) → nat_abs x ≤ 2 ^ 30 → nat_abs y ≤ 2 ^ 30 → nat_abs w ≤ 2 ^ 20 * 2 ^ 40 → FitsSigned w64 ((x -ℤ y) -ℤ w)
way_fits x y w hx hy hw = omega (arith, ints)

-- the first disk has the earlier base tick, and moves until the other's
pub first_moves : (x y u v lead : ℤ) (m n : ℕ) → lead ≡ pos m -ℤ pos n → lead <ℤ pos 0 → nat_abs x ≤ 2 ^ 30 → nat_abs y ≤ 2 ^ 30 →
    nat_abs u ≤ 2 ^ 20 → n ≤ 2 ^ 40 →
    int_wrap w64 ((x -ℤ y) -ℤ (u *ℤ lead)) ≡ coordinate_after x u (max m n - m) -ℤ coordinate_after y v (max m n - n)
first_moves x y u v lead m n e lt hx hy hu hn =
    let later : max m n - m ≡ n - m = omega (arith, ints) in
    let none : max m n - n ≡ 0 = omega (arith, ints) in
    let behind : lead ≡ pos 0 -ℤ pos (n - m) = omega (arith, ints) in
    let short : n - m ≤ 2 ^ 40 = omega arith in
    let size = size_of_product u (pos (n - m)) (2 ^ 20) (2 ^ 40) hu short in
    ap (λ (z : ℤ). int_wrap w64 ((x -ℤ y) -ℤ z)) (ap (λ (k : ℤ). u *ℤ k) behind ∙ back u (n - m))
    ∙ exact (u *ℤ pos (n - m)) size ∙ sym (λ i. coordinate_after x u (later i) -ℤ coordinate_after y v (none i))
  where
    opposite : (w : ℤ) → nat_abs w ≤ 2 ^ 20 * 2 ^ 40 → nat_abs (pos 0 -ℤ w) ≤ 2 ^ 20 * 2 ^ 40
    opposite w h = omega (arith, ints)

    exact : (w : ℤ) → nat_abs w ≤ 2 ^ 20 * 2 ^ 40 →
        int_wrap w64 ((x -ℤ y) -ℤ (pos 0 -ℤ w)) ≡ (x +ℤ w) -ℤ (y +ℤ (v *ℤ pos 0))
    exact w h = int_wrap_fits w64 ((x -ℤ y) -ℤ (pos 0 -ℤ w)) (way_fits x y (pos 0 -ℤ w) hx hy (opposite w h)) ∙ omega (arith, ints)

-- the second one has, or neither
pub second_moves : (x y u v lead : ℤ) (m n : ℕ) → lead ≡ pos m -ℤ pos n → pos 0 ≤ℤ lead → nat_abs x ≤ 2 ^ 30 → nat_abs y ≤ 2 ^ 30 →
    nat_abs v ≤ 2 ^ 20 → m ≤ 2 ^ 40 →
    int_wrap w64 ((x -ℤ y) -ℤ (v *ℤ lead)) ≡ coordinate_after x u (max m n - m) -ℤ coordinate_after y v (max m n - n)
second_moves x y u v lead m n e le hx hy hv hm =
    let later : max m n - n ≡ m - n = omega (arith, ints) in
    let none : max m n - m ≡ 0 = omega (arith, ints) in
    let ahead : lead ≡ pos (m - n) = omega (arith, ints) in
    let short : m - n ≤ 2 ^ 40 = omega arith in
    let size = size_of_product v (pos (m - n)) (2 ^ 20) (2 ^ 40) hv short in
    ap (λ (k : ℤ). int_wrap w64 ((x -ℤ y) -ℤ (v *ℤ k))) ahead
    ∙ exact (v *ℤ pos (m - n)) size ∙ sym (λ i. coordinate_after x u (none i) -ℤ coordinate_after y v (later i))
  where
    exact : (w : ℤ) → nat_abs w ≤ 2 ^ 20 * 2 ^ 40 → int_wrap w64 ((x -ℤ y) -ℤ w) ≡ (x +ℤ (u *ℤ pos 0)) -ℤ (y +ℤ w)
    exact w h = int_wrap_fits w64 ((x -ℤ y) -ℤ w) (way_fits x y w hx hy h) ∙ omega (arith, ints)

pub early : (rules : Rules) (base : ℕ) → IsChecked rules → base ≤ rules.end → base ≤ 2 ^ 40
early rules base checked le = let end = checked.end.1 in omega (arith, ints)

-- so the code's numbers are those meant
pub record AreLeading (rules : Rules) (a b : Disk) : Type 0 where
  pub first : IsWithin (2 ^ 30) (centre_of a)
  pub second : IsWithin (2 ^ 30) (centre_of b)
  pub first_speed : IsWithin (2 ^ 20) (velocity_of a)
  pub second_speed : IsWithin (2 ^ 20) (velocity_of b)
  pub first_base : a.base ≤ 2 ^ 40
  pub second_base : b.base ≤ 2 ^ 40

pub leading : (rules : Rules) (a b : Disk) → IsValidPair rules a b → AreLeading rules a b
leading rules a b pair =
    let checked = pair.checked in
    record {
      first = in_box_size (centre_of a) (inside_in_box rules a (centre_of a) checked pair.first.size pair.first.centre);
      second = in_box_size (centre_of b) (inside_in_box rules b (centre_of b) checked pair.second.size pair.second.centre);
      first_speed = slow_size rules (velocity_of a) checked pair.first.velocity;
      second_speed = slow_size rules (velocity_of b) checked pair.second.velocity;
      first_base = early rules a.base checked pair.first.base;
      second_base = early rules b.base checked pair.second.base;
    }

pub apart_first : (rules : Rules) (a b : Disk) (lead : ℤ) → IsValidPair rules a b → lead ≡ pos a.base -ℤ pos b.base → lead <ℤ pos 0 →
    vector (int_wrap w64 ((a.x -ℤ b.x) -ℤ (a.vx *ℤ lead))) (int_wrap w64 ((a.y -ℤ b.y) -ℤ (a.vy *ℤ lead))) ≡ separation_of a b
apart_first rules a b lead pair e lt =
    let of = leading rules a b pair in
    let x = first_moves a.x b.x a.vx b.vx lead a.base b.base e lt of.first.x of.second.x of.first_speed.x of.second_base in
    let y = first_moves a.y b.y a.vy b.vy lead a.base b.base e lt of.first.y of.second.y of.first_speed.y of.second_base in
    λ i. vector (x i) (y i)

pub apart_second : (rules : Rules) (a b : Disk) (lead : ℤ) → IsValidPair rules a b → lead ≡ pos a.base -ℤ pos b.base → pos 0 ≤ℤ lead →
    vector (int_wrap w64 ((a.x -ℤ b.x) -ℤ (b.vx *ℤ lead))) (int_wrap w64 ((a.y -ℤ b.y) -ℤ (b.vy *ℤ lead))) ≡ separation_of a b
apart_second rules a b lead pair e le =
    let of = leading rules a b pair in
    let x = second_moves a.x b.x a.vx b.vx lead a.base b.base e le of.first.x of.second.x of.second_speed.x of.first_base in
    let y = second_moves a.y b.y a.vy b.vy lead a.base b.base e le of.first.y of.second.y of.second_speed.y of.first_base in
    λ i. vector (x i) (y i)

-- ---- sizes
pub two_halves : (d : ℤ) → pos 2 ≤ℤ d → nat_abs d % 2 ≡ 0 → half_of d +ℤ half_of d ≡ d
unfolding half_of
two_halves (pos d) h even = grind (arith, ints)
two_halves (negsuc d) h even = absurd (omega (arith, ints))

-- half the sum of two even sizes
half_sum : (m n d : ℤ) → pos 2 ≤ℤ m → pos 2 ≤ℤ n → nat_abs m % 2 ≡ 0 → nat_abs n % 2 ≡ 0 → d +ℤ d ≡ m +ℤ n →
    d ≡ half_of m +ℤ half_of n
half_sum m n d hm hn em en e = sums (half_of m) (half_of n) (two_halves m hm em) (two_halves n hn en)
  where
    sums : (k l : ℤ) → k +ℤ k ≡ m → l +ℤ l ≡ n → d ≡ k +ℤ l
    sums k l p q = omega (arith, ints)

-- and as the code computes it
pub half_told : (m n d : ℤ) (w : ℕ) → pos 2 ≤ℤ m → m ≤ℤ pos 1073741824 → pos 2 ≤ℤ n → n ≤ℤ pos 1073741824 → nat_abs m % 2 ≡ 0 →
    nat_abs n % 2 ≡ 0 → w ≡ of_z w64 (to_z w64 ((of_z w64 m + of_z w64 n) % 18446744073709551616)) → d ≡ to_z w64 (w / 2) →
    sent d ≡ half_of m +ℤ half_of n
half_told m n d w hm lm hn ln em en ew ed = half_sum m n (sent d) hm hn em en (twice m n hm lm hn ln em en ew)
  where
    below : (m : ℕ) → pos m ≤ℤ pos 1073741824 → m ≤ 1073741824
    below m h = omega (arith, ints)

    not_negative : (m : ℕ) → pos 2 ≤ℤ negsuc m → ⊥
    not_negative m h = omega (arith, ints)

    exact : (k : ℕ) → k ≤ 2147483648 → w ≡ of_z w64 (to_z w64 (k % 18446744073709551616)) → w ≡ k
    exact k le e =
        let small : k % 18446744073709551616 ≡ k = omega (arith, le) in
        e ∙ ap (λ (l : ℕ). of_z w64 (to_z w64 l)) small ∙ of_z-to_z w64 k (omega (arith, le))

    halved : (k : ℕ) → k ≤ 2147483648 → w ≡ k → sent d ≡ pos (k / 2)
    halved k le e =
        let fits : k / 2 < 9223372036854775808 = omega (arith, le) in
        ap sent (ed ∙ ap (λ (l : ℕ). to_z w64 (l / 2)) e ∙ to_z_pos w64 (k / 2) fits) ∙ to_z_pos w64 (k / 2) fits

    whole : (m n : ℕ) → m % 2 ≡ 0 → n % 2 ≡ 0 → pos ((m + n) / 2) +ℤ pos ((m + n) / 2) ≡ pos m +ℤ pos n
    whole m n em en = omega (arith, ints)

    twice : (m n : ℤ) → pos 2 ≤ℤ m → m ≤ℤ pos 1073741824 → pos 2 ≤ℤ n → n ≤ℤ pos 1073741824 → nat_abs m % 2 ≡ 0 →
        nat_abs n % 2 ≡ 0 → w ≡ of_z w64 (to_z w64 ((of_z w64 m + of_z w64 n) % 18446744073709551616)) → sent d +ℤ sent d ≡ m +ℤ n
    twice (pos m) (pos n) hm lm hn ln em en e =
        let le : m + n ≤ 2147483648 = omega (arith, below m lm, below n ln) in
        let half = halved (m + n) le (exact (m + n) le e) in
        (λ i. half i +ℤ half i) ∙ whole m n em en
    twice (negsuc m) n hm lm hn ln em en e = absurd (not_negative m hm)
    twice (pos m) (negsuc n) hm lm hn ln em en e = absurd (not_negative n hn)

pub half_whole : (m n : ℤ) → pos 2 ≤ℤ m → pos 2 ≤ℤ n → nat_abs m % 2 ≡ 0 → nat_abs n % 2 ≡ 0 →
    quot_z (m +ℤ n) (pos 2) ≡ half_of m +ℤ half_of n
half_whole (pos m) (pos n) hm hn em en = half_sum (pos m) (pos n) (pos ((m + n) / 2)) hm hn em en (omega (arith, ints))
half_whole (negsuc m) n hm hn em en = absurd (omega (arith, ints))
half_whole (pos m) (negsuc n) hm hn em en = absurd (omega (arith, ints))
