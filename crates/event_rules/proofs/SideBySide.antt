-- What the lanes of vectors hold.
use Rattle.std.proofs.Common.{rules, ◌≡◌, ◌↔◌, ℕ, suc, ◌+◌, ◌-◌, ◌*◌, ◌/◌, ◌%◌, ◌^◌, ◌<◌, ◌≤◌, max, Bool, true, false, not, cond, IsTrue, List, [], ◌∷◌, map, arith, refl, sym, ap, subst, ◌∙◌, FitsSigned, to_z, of_z, bit_and, bit_or, ◌⊎◌, inl, inr}
use Rattle.std.specs.Prelude.{ℤ, pos, negsuc, nat_abs, ◌+ℤ◌, ◌-ℤ◌, ◌*ℤ◌, ◌≤ℤ◌, ◌<ℤ◌, ◌&&◌, ◌||◌}
use Rattle.std.specs.Int.{int_wrap, int_rem_euclid, w32, w64}
use Rattle.std.specs.Int.RustNames.{unsigned_abs}
use Rattle.std.proofs.lemmas.Int.{ints, wraps, wrapping_add-bits, int_wrap_fits, to_z_pos, of_z-to_z, to_z-of_z, SFits-int_wrap}
use Rattle.std.proofs.lemmas.Bool.{false≢true, cases_lt}
use Rattle.std.proofs.Math.Facts.{to_z-neg}
use Rattle.std.proofs.lemmas.Nat.{pow_pos}
use Rattle.std.proofs.Math.Nat.{mul-le-mul, pow-le-pow_right}
use lib.Dec.{eqb}
use lib.Lanes.{mask_l, top}
use lib.Signed.{lt_z, shr_z}
use Rattle.plane_vectors.specs.declared.Vector.{Vector}
use Rattle.plane_vectors.specs.Vectors.{vector, difference, dot, IsWithin}
use Rattle.plane_vectors.proofs.Sizes.{size_of_product, sent, sent_same}
use Rattle.fixed_motion.specs.declared.rules.Rules.{Rules}
use Rattle.fixed_motion.specs.declared.disk.Disk.{Disk}
use Rattle.fixed_motion.specs.Motion.{centre_of, velocity_of, contact_distance}
use Rattle.contact_predictor.specs.declared.approach.Approach.{Approach}
use Rattle.contact_predictor.specs.Contact.{gap}
use Rattle.contact_predictor.specs.Approach.{IsApproachOf, FitsApproach}
use Rattle.event_rules.specs.Predict.{separation_of}
use Rattle.event_rules.specs.Lanes.{Hold, wrapped_after}
use Rattle.event_rules.specs.Pairs.{IsValidPair}
use Rattle.event_rules.specs.Scale.{bits_from, rounded_down, rounded_up, CrossRounded, FitRounded}
use Rattle.event_rules.proofs.Leads.{leading, apart_second, way_fits}
use Rattle.event_rules.proofs.Separations.{small_same}
use Rattle.event_rules.proofs.Approaches.{within_box}
use Rattle.event_rules.proofs.Reaches.{IsTold}
use Rattle.event_rules.proofs.Rounding.{down_size, up_size, down_shifted, up_shifted}
use Rattle.event_rules.proofs.Swapped.{IsOpposite, opposite_dot}

-- a call's argument or result
pub held_again : (xs : List ℤ) (m n : ℤ) → Hold xs m n → Hold (map (to_z w64) (map (of_z w64) xs)) m n
held_again xs m n held = rw held.are (record {
  are = λ i. to_z-of_z w64 m held.first i ∷ (to_z-of_z w64 n held.second i ∷ []);
  first = held.first;
  second = held.second;
})

-- ---- arithmetic in one lane
pub subtracted : (m k : ℤ) → FitsSigned w64 m → FitsSigned w64 k →
    to_z w64 ((of_z w64 m + (18446744073709551616 - of_z w64 k)) % 18446744073709551616) ≡ int_wrap w64 (m -ℤ k)
subtracted m k f g = search (rules, wraps)

pub dotted : (x y u v : ℤ) → FitsSigned w64 x → FitsSigned w64 y → FitsSigned w64 u → FitsSigned w64 v →
    to_z w64 ((of_z w64 x * of_z w64 u % 18446744073709551616 + of_z w64 y * of_z w64 v % 18446744073709551616) % 18446744073709551616)
    ≡ int_wrap w64 ((x *ℤ u) +ℤ (y *ℤ v))
dotted x y u v fx fy fu fv = search (rules, wraps, wrapping_add-bits w64)

multiplied : (m n : ℤ) → FitsSigned w64 m → FitsSigned w64 n → FitsSigned w64 (m *ℤ n) →
    to_z w64 (of_z w64 m * of_z w64 n % 18446744073709551616) ≡ m *ℤ n
multiplied m n f g h =
    let told : to_z w64 (of_z w64 m * of_z w64 n % 18446744073709551616) ≡ int_wrap w64 (m *ℤ n) = search (rules, wraps) in
    told ∙ int_wrap_fits w64 (m *ℤ n) h

-- ---- the low bits
-- shifting a word up takes the high bits away
shifted_up : (n : ℕ) → (n * 4294967296) % 18446744073709551616 ≡ (n % 4294967296) * 4294967296
shifted_up n = omega arith

-- and shifting it down again reads what is left with its sign
shifted_down : (k : ℕ) → k < 4294967296 → shr_z (to_z w64 (k * 4294967296)) 4294967296 ≡ to_z w32 k
shifted_down k lt = by_half k lt
  where
    lower : (k : ℕ) → k < 2147483648 → shr_z (to_z w64 (k * 4294967296)) 4294967296 ≡ to_z w32 k
    lower k h =
        let whole : (k * 4294967296) / 4294967296 ≡ k = omega arith in
        ap (λ (z : ℤ). shr_z z 4294967296) (to_z_pos w64 (k * 4294967296) (omega arith)) ∙ ap pos whole ∙ sym (to_z_pos w32 k h)

    upper : (k : ℕ) → 2147483648 ≤ k → k < 4294967296 → shr_z (to_z w64 (k * 4294967296)) 4294967296 ≡ to_z w32 k
    upper k h lt =
        let rest : ℕ = 18446744073709551615 - k * 4294967296 in
        let word : k * 4294967296 ≡ 18446744073709551616 - suc rest = omega arith in
        let low : k ≡ 4294967296 - suc (4294967295 - k) = omega arith in
        let whole : rest / 4294967296 ≡ 4294967295 - k = omega arith in
        ap (λ (n : ℕ). shr_z (to_z w64 n) 4294967296) word ∙ ap (λ (z : ℤ). shr_z z 4294967296) (to_z-neg w64 rest (omega arith))
        ∙ ap negsuc whole ∙ sym (ap (to_z w32) low ∙ to_z-neg w32 (4294967295 - k) (omega arith))

    by_half : (k : ℕ) → k < 4294967296 → shr_z (to_z w64 (k * 4294967296)) 4294967296 ≡ to_z w32 k
    by_half k lt = elim (cases_lt k 2147483648) [
      | inl h ↦ lower k h
      | inr h ↦ upper k h lt
    ]

wrapped_word : (m : ℤ) → FitsSigned w64 m → int_wrap w32 m ≡ to_z w32 (of_z w64 m % 4294967296)
unfolding int_wrap
wrapped_word (pos n) f = refl
wrapped_word (negsuc n) f =
    let few : n < 9223372036854775808 = f.sfits in
    let same : 4294967296 - 1 - n % 4294967296 ≡ (18446744073709551616 - suc n) % 4294967296 = omega arith in
    ap (to_z w32) same

-- a number of 32 bits fits 64
pub wide : (z : ℤ) → FitsSigned w32 z → FitsSigned w64 z
wide z f = let small : nat_abs z ≤ 2147483648 = omega (arith, ints) in omega (arith, ints)

pub low_word : (m : ℤ) → FitsSigned w64 m → to_z w64 (of_z w64 (shr_z (to_z w64 ((of_z w64 m * 2 ^ 32) % 18446744073709551616)) (2 ^ 32))) ≡ int_wrap w32 m
low_word m f =
    let k : ℕ = of_z w64 m % 4294967296 in
    let lt : k < 4294967296 = omega arith in
    let is : shr_z (to_z w64 ((of_z w64 m * 4294967296) % 18446744073709551616)) 4294967296 ≡ int_wrap w32 m =
    ap (λ (n : ℕ). shr_z (to_z w64 n) 4294967296) (shifted_up (of_z w64 m)) ∙ shifted_down k lt ∙ sym (wrapped_word m f) in
    ap (λ (z : ℤ). to_z w64 (of_z w64 z)) is ∙ sent_same (int_wrap w32 m) (wide (int_wrap w32 m) (SFits-int_wrap w32 m))

pub low_twice : (z : ℤ) → int_wrap w32 (int_wrap w64 z) ≡ int_wrap w32 z
unfolding int_wrap
low_twice z = wrapped_word (int_wrap w64 z) (SFits-int_wrap w64 z) ∙ ap (to_z w32) (word z)
  where
    words : (n : ℕ) → n < 18446744073709551616 → of_z w64 (to_z w64 n) % 4294967296 ≡ n % 4294967296
    words n h = ap (λ (k : ℕ). k % 4294967296) (of_z-to_z w64 n h)

    word : (z : ℤ) → of_z w64 (int_wrap w64 z) % 4294967296 ≡ unsigned_abs (int_rem_euclid z (pos 4294967296))
    word (pos n) =
        let lt : n % 18446744073709551616 < 18446744073709551616 = omega arith in
        words (n % 18446744073709551616) lt ∙ omega arith
    word (negsuc n) =
        let lt : 18446744073709551616 - 1 - n % 18446744073709551616 < 18446744073709551616 = omega arith in
        words (18446744073709551616 - 1 - n % 18446744073709551616) lt ∙ omega arith

-- as many low bits
pub low_ones : (bits : ℕ) → bits ≤ 32 → to_z w64 (of_z w64 (to_z w64 ((1 * 2 ^ bits) % 18446744073709551616) -ℤ pos 1)) ≡ pos (2 ^ bits - 1)
low_ones bits few = less_one (2 ^ bits) (pow_pos bits) (pow-le-pow_right (omega arith) few)
  where
    less_one : (k : ℕ) → 0 < k → k ≤ 2 ^ 32 → to_z w64 (of_z w64 (to_z w64 ((1 * k) % 18446744073709551616) -ℤ pos 1)) ≡ pos (k - 1)
    less_one k p h =
        let whole : (1 * k) % 18446744073709551616 ≡ k = omega arith in
        let less : (pos k -ℤ pos 1) ≡ pos (k - 1) = omega (arith, ints) in
        ap (λ (n : ℕ). to_z w64 (of_z w64 (to_z w64 n -ℤ pos 1))) whole
        ∙ ap (λ (z : ℤ). to_z w64 (of_z w64 (z -ℤ pos 1))) (to_z_pos w64 k (omega arith))
        ∙ ap (λ (z : ℤ). to_z w64 (of_z w64 z)) less ∙ sent_same (pos (k - 1)) (omega (arith, ints))

pub ones_fit : (bits : ℕ) → bits ≤ 32 → FitsSigned w64 (pos (2 ^ bits - 1))
ones_fit bits few =
    let power : 2 ^ bits ≤ 2 ^ 32 = pow-le-pow_right (omega arith) few in
    omega (arith, ints)

-- ---- the test of both lanes
less : (x y : ℤ) → IsTrue (lt_z x y) ↔ (x <ℤ y)
less x y = (λ h. grind (arith, ints), λ h. grind (arith, ints))

-- a lane of a mask
abbrev mask : Bool → ℕ
mask b = cond b 18446744073709551615 0

abbrev bits : Bool → Bool → Bool → Bool → ℕ
bits a b c d = mask_l (map (top 63) (bit_and (mask a) (mask c) ∷ (bit_and (mask b) (mask d) ∷ []))) % 18446744073709551616

either_mask : (c e : Bool) → bit_or (mask c) (mask e) ≡ mask (c || e)
either_mask true true = refl
either_mask true false = refl
either_mask false true = refl
either_mask false false = refl

first_bit : (a b c d : Bool) → not (eqb (bit_and (bits a b c d) 1) 0) ≡ (a && c)
first_bit true true true true = refl
first_bit true true true false = refl
first_bit true true false true = refl
first_bit true true false false = refl
first_bit true false true true = refl
first_bit true false true false = refl
first_bit true false false true = refl
first_bit true false false false = refl
first_bit false true true true = refl
first_bit false true true false = refl
first_bit false true false true = refl
first_bit false true false false = refl
first_bit false false true true = refl
first_bit false false true false = refl
first_bit false false false true = refl
first_bit false false false false = refl

second_bit : (a b c d : Bool) → not (eqb (bits a b c d / 2) 0) ≡ (b && d)
second_bit true true true true = refl
second_bit true true true false = refl
second_bit true true false true = refl
second_bit true true false false = refl
second_bit true false true true = refl
second_bit true false true false = refl
second_bit true false false true = refl
second_bit true false false false = refl
second_bit false true true true = refl
second_bit false true true false = refl
second_bit false true false true = refl
second_bit false true false false = refl
second_bit false false true true = refl
second_bit false false true false = refl
second_bit false false false true = refl
second_bit false false false false = refl

-- a number is negative
abbrev is_negative : ℤ → Bool
is_negative n = lt_z (to_z w64 (of_z w64 n)) (to_z w64 0)

-- a product is less than a square
abbrev is_less : ℤ → ℤ → ℤ → Bool
is_less square gap nearing = lt_z (to_z w64 (of_z w64 square * of_z w64 gap % 18446744073709551616))
    (to_z w64 (of_z w64 nearing * of_z w64 nearing % 18446744073709551616))

-- the tests of one lane
abbrev is_crossing : ℕ → ℕ → Approach → Bool
is_crossing speeds places q = is_less (bits_from (2 * speeds) q.square) (bits_from (2 * places) q.gap)
    (bits_from (speeds + places) (int_wrap w64 (pos (2 ^ (speeds + places) - 1) -ℤ q.closing)))

less_small : (a c b : ℕ) → a ≤ 2147483648 → c ≤ 2147483648 → b ≤ 2147483648 → IsTrue (is_less (pos a) (pos c) (pos b)) ↔ (a * c < b * b)
less_small a c b ha hc hb =
    let product : a * c ≤ 2147483648 * 2147483648 = mul-le-mul ha hc in
    let square : b * b ≤ 2147483648 * 2147483648 = mul-le-mul hb hb in
    let fa : FitsSigned w64 (pos a) = omega (arith, ints) in
    let fc : FitsSigned w64 (pos c) = omega (arith, ints) in
    let fb : FitsSigned w64 (pos b) = omega (arith, ints) in
    let fp : FitsSigned w64 (pos (a * c)) = omega (arith, ints) in
    let fs : FitsSigned w64 (pos (b * b)) = omega (arith, ints) in
    rw (multiplied (pos a) (pos c) fa fc fp, multiplied (pos b) (pos b) fb fb fs) (
      λ h. naturals (a * c) (b * b) ((less (pos (a * c)) (pos (b * b))).0 h),
      λ h. (less (pos (a * c)) (pos (b * b))).1 (integers (a * c) (b * b) h),
    )
  where
    naturals : (m n : ℕ) → pos m <ℤ pos n → m < n
    naturals m n h = omega (arith, ints)

    integers : (m n : ℕ) → m < n → pos m <ℤ pos n
    integers m n h = omega (arith, ints)

lane_crosses : (speeds places : ℕ) (q : Approach) → speeds + places ≤ 23 → FitRounded speeds places q.square q.closing q.gap →
    q.closing <ℤ pos 0 → pos 0 ≤ℤ q.gap → IsTrue (is_crossing speeds places q) ↔
    (rounded_down (2 * speeds) q.square * rounded_down (2 * places) q.gap < rounded_up (speeds + places) q.closing * rounded_up (speeds + places) q.closing)
lane_crosses speeds places q few fit nearing apart =
    let down = rounded_down (2 * speeds) q.square in
    let low = rounded_down (2 * places) q.gap in
    let up = rounded_up (speeds + places) q.closing in
    let square = down_shifted (2 * speeds) q.square fit.not_negative fit.square in
    let gaps = down_shifted (2 * places) q.gap apart fit.gap in
    let raised = up_shifted (speeds + places) q.closing few nearing fit.closing in
    let same : is_crossing speeds places q ≡ is_less (pos down) (pos low) (pos up) = λ i. is_less (square i) (gaps i) (raised i) in
    subst (λ (x : Bool). IsTrue x ↔ (down * low < up * up)) (sym same)
    (less_small down low up (down_size (2 * speeds) q.square 2147483648 fit.square) (down_size (2 * places) q.gap 2147483648 fit.gap)
    (up_size (speeds + places) q.closing 2147483648 fit.closing))

-- so a lane tells that the paths cross
lane_told : (speeds places : ℕ) (q : Approach) (x : Bool) → speeds + places ≤ 23 →
    x ≡ (is_negative q.closing && (is_crossing speeds places q || is_negative q.gap)) →
    FitsSigned w64 q.closing → FitsSigned w64 q.gap →
    FitRounded speeds places q.square q.closing q.gap → IsTrue x ↔ CrossRounded speeds places q.square q.closing q.gap
lane_told speeds places q x few is fb fc fit =
    let near : IsTrue (is_negative q.closing) ↔ (q.closing <ℤ pos 0) = rw (sent_same q.closing fb) (less q.closing (pos 0)) in
    let deep : IsTrue (is_negative q.gap) ↔ (q.gap <ℤ pos 0) = rw (sent_same q.gap fc) (less q.gap (pos 0)) in
    let both = split (is_negative q.closing) (is_crossing speeds places q) (is_negative q.gap) in
    rw is (
      λ h. let told = both.0 h in
          record {
            nearing = near.0 told.0;
            crossing = λ apart. elim told.1 [
              | inl crosses ↦ (lane_crosses speeds places q few fit (near.0 told.0) apart).0 crosses
              | inr deeper ↦ absurd (never q.gap apart (deep.0 deeper))
            ];
          },
      λ h. both.1 (
        near.1 h.nearing,
        elim (sign q.gap) [
          | inl apart ↦ inl ((lane_crosses speeds places q few fit h.nearing apart).1 (h.crossing apart))
          | inr deeper ↦ inr (deep.1 deeper)
        ],
      ),
    )
  where
    split : (x y z : Bool) → IsTrue (x && (y || z)) ↔ (IsTrue x × (IsTrue y ⊎ IsTrue z))
    split true true z = (λ h. (refl, inl refl), λ h. refl)
    split true false z = (λ h. (refl, inr h), λ h. elim h.1 [ inl wrong ↦ absurd (false≢true wrong) | inr either ↦ either ])
    split false y z = (λ h. absurd (false≢true h), λ h. h.0)

    never : (n : ℤ) → pos 0 ≤ℤ n → n <ℤ pos 0 → ⊥
    never n h k = omega (arith, ints)

    sign : (n : ℤ) → (pos 0 ≤ℤ n) ⊎ (n <ℤ pos 0)
    sign (pos n) = inl (omega (arith, ints))
    sign (negsuc n) = inr (omega (arith, ints))

-- the code's answers
abbrev bits_of : ℕ → ℕ → Approach → Approach → ℕ
bits_of speeds places p q = mask_l (map (top 63) (
    bit_and (mask (is_negative p.closing)) (bit_or (mask (is_crossing speeds places p)) (mask (is_negative p.gap)))
    ∷ (bit_and (mask (is_negative q.closing)) (bit_or (mask (is_crossing speeds places q)) (mask (is_negative q.gap))) ∷ [])
    )) % 18446744073709551616

pub lanes_told : (speeds places : ℕ) (p q : Approach) → speeds + places ≤ 23 → Hold (p.closing ∷ q.closing ∷ []) p.closing q.closing →
    Hold (p.gap ∷ q.gap ∷ []) p.gap q.gap →
    (FitRounded speeds places p.square p.closing p.gap → IsTrue (not (eqb (bit_and (bits_of speeds places p q) 1) 0))
    ↔ CrossRounded speeds places p.square p.closing p.gap)
    × (FitRounded speeds places q.square q.closing q.gap → IsTrue (not (eqb (bits_of speeds places p q / 2) 0))
    ↔ CrossRounded speeds places q.square q.closing q.gap)
lanes_told speeds places p q few closing gaps =
    let a = is_negative p.closing in
    let b = is_negative q.closing in
    let c = is_crossing speeds places p || is_negative p.gap in
    let d = is_crossing speeds places q || is_negative q.gap in
    let same : bits_of speeds places p q ≡ bits a b c d = rw (
      either_mask (is_crossing speeds places p) (is_negative p.gap),
      either_mask (is_crossing speeds places q) (is_negative q.gap),
    ) refl in (
      lane_told speeds places p (not (eqb (bit_and (bits_of speeds places p q) 1) 0)) few
          (ap (λ (n : ℕ). not (eqb (bit_and n 1) 0)) same ∙ first_bit a b c d) closing.first gaps.first,
      lane_told speeds places q (not (eqb (bits_of speeds places p q / 2) 0)) few
          (ap (λ (n : ℕ). not (eqb (n / 2) 0)) same ∙ second_bit a b c d) closing.second gaps.second,
    )

-- ---- two disks
-- if the lanes' numbers fit, they are those of the separation reversed
pub turned : (x y w p s : ℤ) → nat_abs x ≤ 2 ^ 30 → nat_abs y ≤ 2 ^ 30 → nat_abs w ≤ 2 ^ 20 * 2 ^ 40 → p ≡ int_wrap w64 (y +ℤ w) →
    int_wrap w64 ((x -ℤ y) -ℤ w) ≡ s → nat_abs s ≤ 2 ^ 30 → int_wrap w32 (sent p -ℤ sent x) ≡ pos 0 -ℤ s
turned x y w p s hx hy hw ep es hs =
    let there : p ≡ y +ℤ w = ep ∙ int_wrap_fits w64 (y +ℤ w) (sum_fits y w hy hw) in
    let apart : ((x -ℤ y) -ℤ w) ≡ s = sym (int_wrap_fits w64 ((x -ℤ y) -ℤ w) (way_fits x y w hx hy hw)) ∙ es in
    let same : sent p ≡ p = rw there (sent_same (y +ℤ w) (sum_fits y w hy hw)) in
    let home : sent x ≡ x = small_same x hx in
    let back : (p -ℤ x) ≡ pos 0 -ℤ s = omega (arith, ints) in
    rw (same, home, back) (int_wrap_fits w32 (pos 0 -ℤ s) (low_fits s hs))
  where
    sum_fits : (y w : ℤ) → nat_abs y ≤ 2 ^ 30 → nat_abs w ≤ 2 ^ 20 * 2 ^ 40 → FitsSigned w64 (y +ℤ w)
    sum_fits y w hy hw = omega (arith, ints)

    low_fits : (s : ℤ) → nat_abs s ≤ 2 ^ 30 → FitsSigned w32 (pos 0 -ℤ s)
    low_fits s h = omega (arith, ints)

pub slow_turned : (v w : ℤ) → nat_abs v ≤ 2 ^ 20 → nat_abs w ≤ 2 ^ 20 → int_wrap w32 (sent w -ℤ sent v) ≡ pos 0 -ℤ (v -ℤ w)
slow_turned v w hv hw =
    let first : sent v ≡ v = small_same v (omega (arith, hv)) in
    let second : sent w ≡ w = small_same w (omega (arith, hw)) in
    let back : (w -ℤ v) ≡ pos 0 -ℤ (v -ℤ w) = omega (arith, ints) in
    rw (first, second) (int_wrap_fits w32 (w -ℤ v) (low_fits v w hv hw) ∙ back)
  where
    low_fits : (v w : ℤ) → nat_abs v ≤ 2 ^ 20 → nat_abs w ≤ 2 ^ 20 → FitsSigned w32 (w -ℤ v)
    low_fits v w hv hw = omega (arith, ints)

-- the code's numbers for a disk, given the place of another one
abbrev pub low_vector : Vector → Vector → Vector
low_vector p q = vector (int_wrap w32 (sent p.x -ℤ sent q.x)) (int_wrap w32 (sent p.y -ℤ sent q.y))

abbrev pub lanes_approach : ℤ → Vector → Vector → Approach
lanes_approach square r u = record {
  square = int_wrap w64 (dot u u);
  closing = int_wrap w64 (dot r u);
  gap = int_wrap w64 (int_wrap w64 (dot r r) -ℤ square);
}

lead_size : (m n : ℕ) → m ≤ 2 ^ 40 → n ≤ m → nat_abs (pos m -ℤ pos n) ≤ 2 ^ 40
lead_size m n h le = omega (arith, ints)

not_before : (m n : ℕ) → n ≤ m → pos 0 ≤ℤ (pos m -ℤ pos n)
not_before m n le = omega (arith, ints)

-- the separation turned round
places_turned : (rules : Rules) (a b : Disk) (place : Vector) → IsValidPair rules a b → b.base ≤ a.base →
    place ≡ wrapped_after b (pos a.base -ℤ pos b.base) → IsWithin (2 ^ 30) (separation_of a b) →
    IsOpposite (separation_of a b) (low_vector place (centre_of a))
places_turned rules a b place pair le at near =
    let of = leading rules a b pair in
    let lead : ℤ = pos a.base -ℤ pos b.base in
    let apart = apart_second rules a b lead pair refl (not_before a.base b.base le) in
    let size = lead_size a.base b.base of.first_base le in
    record {
      x = turned a.x b.x (b.vx *ℤ lead) place.x (separation_of a b).x of.first.x of.second.x
          (size_of_product b.vx lead (2 ^ 20) (2 ^ 40) of.second_speed.x size) (ap (λ (p : Vector). p.x) at) (ap (λ (p : Vector). p.x) apart) near.x;
      y = turned a.y b.y (b.vy *ℤ lead) place.y (separation_of a b).y of.first.y of.second.y
          (size_of_product b.vy lead (2 ^ 20) (2 ^ 40) of.second_speed.y size) (ap (λ (p : Vector). p.y) at) (ap (λ (p : Vector). p.y) apart) near.y;
    }

velocities_turned : (rules : Rules) (a b : Disk) → IsValidPair rules a b →
    IsOpposite (difference (velocity_of a) (velocity_of b)) (low_vector (velocity_of b) (velocity_of a))
velocities_turned rules a b pair =
    let of = leading rules a b pair in
    record { x = slow_turned a.vx b.vx of.first_speed.x of.second_speed.x; y = slow_turned a.vy b.vy of.first_speed.y of.second_speed.y }

-- so the quadratic is the same
same_approach : (r u s v : Vector) (distance square : ℤ) → IsOpposite r s → IsOpposite u v →
    square ≡ distance *ℤ distance → FitsApproach r u distance → IsApproachOf r u distance (lanes_approach square s v)
same_approach r u s v distance square hr hu is few = record {
  square = ap (int_wrap w64) (sym (opposite_dot u u v v hu hu)) ∙ exact (dot u u) few.square;
  closing = ap (int_wrap w64) (sym (opposite_dot r u s v hr hu)) ∙ exact (dot r u) few.closing;
  gap = ap (λ (n : ℤ). int_wrap w64 (int_wrap w64 n -ℤ square)) (sym (opposite_dot r r s s hr hr))
      ∙ ap (λ (k : ℤ). int_wrap w64 (int_wrap w64 (dot r r) -ℤ k)) is
      ∙ once (dot r r) (distance *ℤ distance) ∙ exact (gap r distance) few.gap;
}
  where
    exact : (z : ℤ) → nat_abs z < 2 ^ 63 → int_wrap w64 z ≡ z
    exact z h = int_wrap_fits w64 z (omega (arith, ints))

    once : (m k : ℤ) → int_wrap w64 (int_wrap w64 m -ℤ k) ≡ int_wrap w64 (m -ℤ k)
    once m k = search (rules, wraps)

pub lanes_tell : (square : ℤ) (rules : Rules) (a b : Disk) (place : Vector) → b.base ≤ a.base →
    (a.base ≤ 2 ^ 40 → b.base ≤ 2 ^ 40 → place ≡ wrapped_after b (pos a.base -ℤ pos b.base)) → IsValidPair rules a b →
    IsTold square rules a b (lanes_approach square (low_vector place (centre_of a)) (low_vector (velocity_of b) (velocity_of a)))
lanes_tell square rules a b place le at pair =
    let of = leading rules a b pair in
    let r = separation_of a b in
    let u = difference (velocity_of a) (velocity_of b) in
    record {
      apart = record { start = max a.base b.base; places = r; velocities = u; distance = contact_distance a b };
      is = record { start = refl; places = refl; velocities = refl; distance = refl };
      told = λ distance is near few.
          same_approach r u (low_vector place (centre_of a)) (low_vector (velocity_of b) (velocity_of a)) distance square
          (places_turned rules a b place pair le (at of.first_base of.second_base) (within_box rules r pair.checked near))
          (velocities_turned rules a b pair) is few;
    }
