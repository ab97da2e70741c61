-- The code's tests of places.
use Rattle.std.proofs.Common.{◌≡◌, ◌↔◌, ◌∙◌, sym, ◌*◌, ◌^◌, ◌-◌, ◌≤◌, ℤ, pos, neg_ℤ, nat_abs, ◌+ℤ◌, ◌-ℤ◌, ◌*ℤ◌, int_div, int_lt, Bool, ◌&&◌, true, false, IsTrue, FitsSigned, w64, arith}
use Rattle.std.proofs.lemmas.Int.{ints, to_z-of_z, quot_is, quot_fits}
use Rattle.plane_vectors.specs.declared.Vector.{Vector}
use Rattle.plane_vectors.specs.Vectors.{dot, difference, IsWithin}
use Rattle.plane_vectors.proofs.Sizes.{sent, sent_same, size_of_product}
use Rattle.fixed_motion.specs.declared.rules.Rules.{Rules}
use Rattle.fixed_motion.specs.declared.disk.Disk.{Disk}
use Rattle.fixed_motion.specs.Rules.{Range, IsIn, is_in}
use Rattle.fixed_motion.specs.Motion.{half_of, radius_of, IsInside, is_inside, squared_distance, Overlaps, overlaps}

-- the halves of numbers of 64 bits
abbrev pub halves : Range
halves = (neg_ℤ (pos (2 ^ 62)), pos (2 ^ 62 - 1))

-- the code's half of a number
pub half_sent : (n : ℤ) → FitsSigned w64 n → (sent (int_div (sent n) (pos 2)) ≡ half_of n) × IsIn halves (half_of n)
unfolding half_of
half_sent n fits = (quot_is w64 n (pos 2) fits (omega (arith, ints)) (quot_fits w64 n (pos 2) fits (omega (arith, ints))), (grind (arith, ints), grind (arith, ints)))

-- the code's sum of two halves
pub sum_sent : (m n : ℤ) → IsIn halves m → IsIn halves n → FitsSigned w64 (sent m +ℤ sent n) × (sent (sent m +ℤ sent n) ≡ (m +ℤ n))
sum_sent m n h k = (omega (arith, ints), omega (arith, ints))

-- the code's test of a coordinate against the least and the most that a side allows
pub in_sent : (radius side n : ℤ) (b : Bool) → IsIn halves radius → nat_abs side ≤ 2 ^ 30 → FitsSigned w64 n →
    b ≡ is_in (sent radius, sent (sent side -ℤ sent radius)) (sent n) → b ≡ is_in (radius, side -ℤ radius) n
in_sent radius side n b small short fits h =
    let fr : FitsSigned w64 radius = omega (arith, ints) in
    let fs : FitsSigned w64 side = omega (arith, ints) in
    let fd : FitsSigned w64 (side -ℤ radius) = omega (arith, ints) in
    simp (to_z-of_z w64 radius fr, to_z-of_z w64 side fs, to_z-of_z w64 (side -ℤ radius) fd, to_z-of_z w64 n fits) at h

both_hold : (a b x y : Bool) → x ≡ true → x ≡ a → y ≡ b → y ≡ (a && b)
both_hold true b x y h k l = l
both_hold false b x y h k l = cc

one_fails : (a b x : Bool) → x ≡ false → x ≡ a → x ≡ (a && b)
one_fails true b x h k = cc
one_fails false b x h k = k

-- the test of a place, if the test of its first coordinate holds
pub inside_where_first : (rules : Rules) (a : Disk) (p : Vector) (radius : ℤ) (x y : Bool) → radius ≡ radius_of a → x ≡ true →
    x ≡ is_in (radius, rules.width -ℤ radius) p.x → y ≡ is_in (radius, rules.height -ℤ radius) p.y → y ≡ is_inside rules a p
inside_where_first rules a p radius x y e h k l =
    rw (← e) (both_hold (is_in (radius, rules.width -ℤ radius) p.x) (is_in (radius, rules.height -ℤ radius) p.y) x y h k l)

-- the test of a place, if the test of its first coordinate fails
pub outside_by_first : (rules : Rules) (a : Disk) (p : Vector) (radius : ℤ) (x : Bool) → radius ≡ radius_of a → x ≡ false →
    x ≡ is_in (radius, rules.width -ℤ radius) p.x → x ≡ is_inside rules a p
outside_by_first rules a p radius x e h k =
    rw (← e) (one_fails (is_in (radius, rules.width -ℤ radius) p.x) (is_in (radius, rules.height -ℤ radius) p.y) x h k)

inside_by_test : (rules : Rules) (a : Disk) (p : Vector) → is_inside rules a p ≡ true → IsInside rules a p
inside_by_test rules a p h = record { left = grind (arith, ints); right = grind (arith, ints); bottom = grind (arith, ints); top = grind (arith, ints) }

inside_tests : (rules : Rules) (a : Disk) (p : Vector) → IsInside rules a p → is_inside rules a p ≡ true
inside_tests rules a p h = grind (arith, ints, h.left, h.right, h.bottom, h.top)

-- the test says whether a disk is inside
pub inside_tested : (rules : Rules) (a : Disk) (p : Vector) (b : Bool) → b ≡ is_inside rules a p → IsTrue b ↔ IsInside rules a p
inside_tested rules a p b e = (λ h. inside_by_test rules a p (sym e ∙ h), λ h. e ∙ inside_tests rules a p h)

overlaps_by_test : (distance : ℤ) (p q : Vector) → overlaps distance p q ≡ true → Overlaps distance p q
overlaps_by_test distance p q h = grind (arith, ints)

overlaps_tests : (distance : ℤ) (p q : Vector) → Overlaps distance p q → overlaps distance p q ≡ true
overlaps_tests distance p q h = grind (arith, ints)

-- the test says whether two places are nearer than the distance
pub overlap_tested : (distance : ℤ) (p q : Vector) (b : Bool) → b ≡ overlaps distance p q → IsTrue b ↔ Overlaps distance p q
overlap_tested distance p q b e = (λ h. overlaps_by_test distance p q (sym e ∙ h), λ h. e ∙ overlaps_tests distance p q h)

-- the code's square of a distance up to 2^30
pub square_sent : (d : ℤ) → nat_abs d ≤ 2 ^ 30 → FitsSigned w64 (sent d *ℤ sent d) × (sent (sent d *ℤ sent d) ≡ (d *ℤ d))
square_sent d h =
    let same : sent d ≡ d = omega (arith, ints) in
    let size = size_of_product d d (2 ^ 30) (2 ^ 30) h h in
    let fits : FitsSigned w64 (d *ℤ d) = omega (arith, ints) in
    (rw same fits, rw same (sent_same (d *ℤ d) fits))

-- the code's test of two places whose difference is r
pub test_sent : (d n : ℤ) (p q r : Vector) → nat_abs d ≤ 2 ^ 30 → IsWithin (2 ^ 30) r → r ≡ difference p q → n ≡ dot r r →
    int_lt (sent n) (sent (sent d *ℤ sent d)) ≡ overlaps d p q
test_sent d n p q r h k e f =
    let xx = size_of_product r.x r.x (2 ^ 30) (2 ^ 30) k.x k.x in
    let yy = size_of_product r.y r.y (2 ^ 30) (2 ^ 30) k.y k.y in
    let same : sent n ≡ dot r r = rw f (sum_of_squares (r.x *ℤ r.x) (r.y *ℤ r.y) xx yy) in
    let square : sent n ≡ squared_distance p q = rw e at same in
    let distance = (square_sent d h).1 in
    λ i. int_lt (square i) (distance i)
  where
    sum_of_squares : (m n : ℤ) → nat_abs m ≤ 2 ^ 30 * 2 ^ 30 → nat_abs n ≤ 2 ^ 30 * 2 ^ 30 → sent (m +ℤ n) ≡ (m +ℤ n)
    sum_of_squares m n h k = omega (arith, ints)
