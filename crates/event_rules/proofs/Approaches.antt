-- The quadratic of two disks in the box, and what it tells of their contacts.
use Rattle.std.proofs.Common.{◌≡◌, ◌↔◌, ℕ, ◌*◌, ◌^◌, ◌≤◌, Bool, true, false, IsTrue, arith, sym, subst}
use Rattle.std.specs.Prelude.{ℤ, pos, negsuc, nat_abs, ◌+ℤ◌, ◌-ℤ◌, ◌*ℤ◌, ◌≤ℤ◌, ◌<ℤ◌}
use Rattle.std.proofs.lemmas.Int.{ints}
use Rattle.std.proofs.Math.Nat.{mul-le-mul, mul-le-mul_left}
use Rattle.plane_vectors.specs.declared.Vector.{Vector}
use Rattle.plane_vectors.specs.Vectors.{difference, dot, IsWithin}
use Rattle.plane_vectors.proofs.Sizes.{sent}
use Rattle.fixed_motion.specs.declared.rules.Rules.{Rules}
use Rattle.fixed_motion.specs.declared.disk.Disk.{Disk}
use Rattle.fixed_motion.specs.Rules.{IsChecked}
use Rattle.fixed_motion.specs.Motion.{IsValidDisk, IsInside, half_of, place_of, velocity_of, contact_distance, radius_of}
use Rattle.fixed_motion.proofs.Sizes.{contact_least, contact_most, radius_least, two_radii, slow_size}
use Rattle.contact_predictor.specs.declared.approach.Approach.{Approach}
use Rattle.contact_predictor.specs.Contact.{gap, IsCollisionCourse, MayTouch}
use Rattle.contact_predictor.specs.Approach.{IsApproachOf, FitsApproach, IsFit, IsCourse}
use Rattle.contact_predictor.proofs.Approaching.{speed_not_negative, touch_from_now}
use Rattle.contact_predictor.proofs.Bounds.{AreInABox, fits_in_a_box, fit_in_a_box}
use Rattle.event_rules.specs.declared.separation.Separation.{Separation}
use Rattle.event_rules.specs.Events.{IsContactTick}
use Rattle.event_rules.specs.Predict.{IsSeparation, separation_of}
use Rattle.event_rules.specs.Pairs.{IsValidPair, FitsTheBox, DoCoursesCrossAt, IsApproachAt, reach_of}
use Rattle.event_rules.proofs.Courses.{inside_until}
use Rattle.event_rules.proofs.Leads.{two_halves}
use Rattle.event_rules.proofs.Separations.{places_are, relative_size, small_same, ticks_until}

-- ---- two disks
-- no side of the box is longer
pub within_box : (rules : Rules) (r : Vector) → IsChecked rules → FitsTheBox rules r → IsWithin (2 ^ 30) r
within_box rules r checked fits =
    let width = checked.width in
    let height = checked.height in
    record { x = omega (arith, ints, fits.x); y = omega (arith, ints, fits.y) }

-- no less than the distance at which two disks touch, and no more than the greatest diameter
record IsReach (rules : Rules) (a b : Disk) (distance : ℤ) : Type 0 where
  pub least : contact_distance a b ≤ℤ distance
  pub most : distance ≤ℤ rules.diameter

same_size : (d : ℤ) → d ≤ℤ d
same_size d = omega (arith, ints)

own_reach : (rules : Rules) (a b : Disk) → IsValidPair rules a b → IsReach rules a b (contact_distance a b)
own_reach rules a b pair =
    record { least = same_size (contact_distance a b); most = contact_most rules a b pair.first.size pair.second.size }

whole_reach : (rules : Rules) (a b : Disk) → IsValidPair rules a b → IsReach rules a b (reach_of rules a)
whole_reach rules a b pair =
    let two = two_halves rules.diameter pair.checked.diameter.0 pair.checked.diameter_even in
    let first = two_radii rules a pair.first.size in
    let second = two_radii rules b pair.second.size in
    record {
      least = between (radius_of a) (radius_of b) (half_of rules.diameter) rules.diameter two second;
      most = between_most (radius_of a) (half_of rules.diameter) rules.diameter two first;
    }
  where
    between : (k l h d : ℤ) → h +ℤ h ≡ d → (l +ℤ l) ≤ℤ d → (k +ℤ l) ≤ℤ (h +ℤ k)
    between k l h d two le = omega (arith, ints)

    between_most : (k h d : ℤ) → h +ℤ h ≡ d → (k +ℤ k) ≤ℤ d → (h +ℤ k) ≤ℤ d
    between_most k h d two le = omega (arith, ints)

short : (rules : Rules) (a b : Disk) (d : ℤ) → IsValidPair rules a b → IsReach rules a b d → nat_abs d ≤ 2 ^ 30
short rules a b d pair reach =
    within (contact_distance a b) d rules.diameter rules.width (contact_least rules a b pair.first.size pair.second.size)
    reach.least reach.most pair.checked.diameter.1 pair.checked.width.1
  where
    within : (c d most side : ℤ) → pos 2 ≤ℤ c → c ≤ℤ d → d ≤ℤ most → most ≤ℤ side → side ≤ℤ pos 1073741824 → nat_abs d ≤ 2 ^ 30
    within c d most side h k l m n = omega (arith, ints)

in_a_box : (rules : Rules) (a b : Disk) (r u : Vector) (d : ℤ) → IsValidPair rules a b → u ≡ difference (velocity_of a) (velocity_of b) →
    IsReach rules a b d → FitsTheBox rules r → AreInABox r u d
in_a_box rules a b r u d pair same reach near = record {
  separation = within_box rules r pair.checked near;
  velocity = subst (λ (v : Vector). IsWithin (2 ^ 21) v) (sym same)
      (relative_size (velocity_of a) (velocity_of b) (slow_size rules (velocity_of a) pair.checked pair.first.velocity)
      (slow_size rules (velocity_of b) pair.checked pair.second.velocity));
  reach = short rules a b d pair reach;
}

-- if the numbers of a quadratic fit, it is that of the separation, as if the disks touched at this distance
abbrev Told : Separation → ℤ → Approach → Type 0
Told s d q = FitsApproach s.places s.velocities d → IsApproachOf s.places s.velocities d q

-- the code's quadratic is that of the disks
near_at : (rules : Rules) (a b : Disk) (r u : Vector) (d : ℤ) (q : Approach) → IsValidPair rules a b →
    u ≡ difference (velocity_of a) (velocity_of b) → IsReach rules a b d → FitsTheBox rules r →
    (FitsApproach r u d → IsApproachOf r u d q) → IsApproachOf r u d q × IsFit q
near_at rules a b r u d q pair same reach near told =
    let are = in_a_box rules a b r u d pair same reach near in
    let of = told (fits_in_a_box r u d are) in
    (of, fit_in_a_box r u d q are of)

near_approach : (rules : Rules) (a b : Disk) (s : Separation) (d : ℤ) (q : Approach) → IsValidPair rules a b → IsSeparation a b s →
    IsReach rules a b d → FitsTheBox rules s.places → Told s d q → IsApproachOf s.places s.velocities d q × IsFit q
near_approach rules a b s d q pair sep reach near told =
    near_at rules a b s.places s.velocities d q pair sep.velocities reach near told

pub fit_approach : (s : Separation) (q : Approach) → Told s (sent s.distance) q → IsApproachAt s q
fit_approach s q told rules a b pair sep near =
    let reach : IsReach rules a b s.distance = subst (λ (d : ℤ). IsReach rules a b d) (sym sep.distance) (own_reach rules a b pair) in
    let same : sent s.distance ≡ s.distance = small_same s.distance (short rules a b s.distance pair reach) in
    let are = near_approach rules a b s s.distance q pair sep reach near (subst (λ (d : ℤ). Told s d q) same told) in
    record { of = are.0; fits = are.1 }

-- ---- contacts
inside_fits : (rules : Rules) (a b : Disk) (p q : Vector) → IsValidDisk rules a → IsValidDisk rules b → IsInside rules a p → IsInside rules b q →
    FitsTheBox rules (difference p q)
inside_fits rules a b p q va vb ia ib =
    let first = radius_least rules a va.size in
    let second = radius_least rules b vb.size in
    record {
      x = apart rules.width p.x q.x (radius_of a) (radius_of b) first second ia.left ia.right ib.left ib.right;
      y = apart rules.height p.y q.y (radius_of a) (radius_of b) first second ia.bottom ia.top ib.bottom ib.top;
    }
  where
    apart : (side m n k l : ℤ) → pos 1 ≤ℤ k → pos 1 ≤ℤ l → k ≤ℤ m → m ≤ℤ (side -ℤ k) → l ≤ℤ n → n ≤ℤ (side -ℤ l) →
        nat_abs (m -ℤ n) ≤ nat_abs side
    apart side m n k l hk hl a b c d = omega (arith, ints)

-- so at any places at which both are inside
pub inside_approach : (rules : Rules) (a b : Disk) (p o u : Vector) (q : Approach) → IsValidPair rules a b → IsInside rules a p →
    IsInside rules b o → u ≡ difference (velocity_of a) (velocity_of b) →
    (FitsApproach (difference p o) u (contact_distance a b) → IsApproachOf (difference p o) u (contact_distance a b) q) →
    IsApproachOf (difference p o) u (contact_distance a b) q × IsFit q
inside_approach rules a b p o u q pair first second same told =
    near_at rules a b (difference p o) u (contact_distance a b) q pair same (own_reach rules a b pair)
    (inside_fits rules a b p o pair.first pair.second first second) told

-- disks that have a contact fit the box at the later base tick, since both are inside then
pub contact_fits : (rules : Rules) (a b : Disk) (s : Separation) (tick : ℕ) → IsValidPair rules a b → IsSeparation a b s →
    IsContactTick rules a b tick → FitsTheBox rules s.places
contact_fits rules a b s tick pair sep contact =
    let x : a.base ≤ tick = contact.first_base in
    let y : b.base ≤ tick = contact.second_base in
    let e = sep.start in
    let first = inside_until rules a s.start tick pair.first.centre (omega arith) contact.first_inside in
    let second = inside_until rules b s.start tick pair.second.centre (omega arith) contact.second_inside in
    subst (λ (r : Vector). FitsTheBox rules r) (sym sep.places)
    (inside_fits rules a b (place_of a s.start) (place_of b s.start) pair.first pair.second first second)

-- and their quadratic says so
pub contact_course : (rules : Rules) (a b : Disk) (s : Separation) (q : Approach) (tick : ℕ) → IsValidPair rules a b → IsSeparation a b s →
    IsApproachAt s q → IsContactTick rules a b tick → (pos 0 ≤ℤ q.gap) × IsCourse q
contact_course rules a b s q tick pair sep approach contact =
    let at = approach rules a b pair sep (contact_fits rules a b s tick pair sep contact) in
    let n = ticks_until rules a b s tick sep contact in
    now s.places s.velocities s.distance q at.of (touch_from_now s.places s.velocities s.distance _ n.1)
  where
    now : (r u : Vector) (d : ℤ) (q : Approach) → IsApproachOf r u d q → MayTouch r u d → (pos 0 ≤ℤ q.gap) × IsCourse q
    now r u d q of may = (
      rw of.gap may.approaching.apart,
      (rw of.closing may.approaching.approaching, rw (of.square, of.gap, of.closing) may.crossing),
    )

pub never_overlapping : (gap : ℤ) → pos 0 ≤ℤ gap → gap <ℤ pos 0 → ⊥
never_overlapping gap apart overlap = omega (arith, ints)

-- ---- greater distances
-- for a greater distance the discriminant is greater
times_less : (k : ℕ) (x y : ℤ) → x ≤ℤ y → (pos k *ℤ x) ≤ℤ (pos k *ℤ y)
times_less k (pos m) (pos n) le =
    let order : m ≤ n = omega (arith, ints) in
    let most : k * m ≤ k * n = mul-le-mul_left k order in
    omega (arith, ints)
times_less k (negsuc m) (pos n) le = omega (arith, ints)
times_less k (pos m) (negsuc n) le = absurd (omega (arith, ints))
times_less k (negsuc m) (negsuc n) le =
    let order : n ≤ m = omega (arith, ints) in
    let most : k * n ≤ k * m = mul-le-mul_left k order in
    omega (arith, ints)

less_gap : (z c d : ℤ) → pos 0 ≤ℤ c → c ≤ℤ d → (z -ℤ (d *ℤ d)) ≤ℤ (z -ℤ (c *ℤ c))
less_gap z (pos m) (pos n) p le =
    let greater : m ≤ n = omega (arith, ints) in
    let squares : m * m ≤ n * n = mul-le-mul greater greater in
    omega (arith, ints)
less_gap z (negsuc m) d p le = absurd (omega (arith, ints))
less_gap z (pos m) (negsuc n) p le = absurd (omega (arith, ints))

wider : (a x y e : ℤ) → pos 0 ≤ℤ a → y ≤ℤ x → (a *ℤ x) <ℤ e → (a *ℤ y) <ℤ e
wider (pos k) x y e p le lt = let less = times_less k y x le in omega (arith, ints)
wider (negsuc k) x y e p le lt = absurd (omega (arith, ints))

-- so disks that may touch at a distance would be on a course with a greater one too
course_near : (r u : Vector) (c d : ℤ) (q : Approach) → IsApproachOf r u d q → pos 0 ≤ℤ c → c ≤ℤ d → MayTouch r u c → IsCourse q
course_near r u c d q of positive le may = (
  rw of.closing may.approaching.approaching,
  rw (of.square, of.gap, of.closing) (wider (dot u u) (gap r c) (gap r d) (dot r u *ℤ dot r u) (speed_not_negative u) (less_gap (dot r r) c d positive le) may.crossing),
)

-- a test that says yes of each course as if the disks touched at the reach of the first
pub never_near : (rules : Rules) (a b : Disk) (s : Separation) (q : Approach) (tells : Bool) → IsValidPair rules a b →
    IsSeparation a b s → (FitsTheBox rules s.places → Told s (reach_of rules a) q) → (IsFit q → IsCourse q → IsTrue tells) → tells ≡ false →
    (tick : ℕ) → IsContactTick rules a b tick → ⊥
never_near rules a b s q tells pair sep told test is tick contact =
    let d = reach_of rules a in
    let reach = whole_reach rules a b pair in
    let near = contact_fits rules a b s tick pair sep contact in
    let are = near_approach rules a b s d q pair sep reach near (told near) in
    let least = contact_least rules a b pair.first.size pair.second.size in
    let n = ticks_until rules a b s tick sep contact in
    let may : MayTouch s.places s.velocities (contact_distance a b) =
    subst (λ (c : ℤ). MayTouch s.places s.velocities c) sep.distance (touch_from_now s.places s.velocities s.distance _ n.1) in
    let course = course_near s.places s.velocities (contact_distance a b) d q are.0 (positive (contact_distance a b) least) reach.least may in
    let yes : tells ≡ true = test are.1 course in cc
  where
    positive : (c : ℤ) → pos 2 ≤ℤ c → pos 0 ≤ℤ c
    positive c h = omega (arith, ints)

-- the quadratic tells exactly whether the courses cross
courses_cross : (a b : Disk) (s : Separation) (d : ℤ) (q : Approach) → IsSeparation a b s → IsApproachOf s.places s.velocities d q →
    IsCourse q ↔ DoCoursesCrossAt d a b
courses_cross a b s d q sep of =
    let told = alike s.places (separation_of a b) s.velocities (difference (velocity_of a) (velocity_of b)) d q of
    (places_are a b s sep) sep.velocities in (
      λ h. record { nearing = (told.0 h).0; crossing = (told.0 h).1 },
      λ h. told.1 (h.nearing, h.crossing),
    )
  where
    alike : (r r' u u' : Vector) (d : ℤ) (q : Approach) → IsApproachOf r u d q → r ≡ r' → u ≡ u' →
        IsCourse q ↔ ((dot r' u' <ℤ pos 0) × IsCollisionCourse r' u' d)
    alike r r' u u' d q of er eu = rw (of.square, of.closing, of.gap, er, eu) (λ h. h, λ h. h)

-- the quadratic as if the disks touched at the reach of the first, within the box
pub near_reach : (rules : Rules) (a b : Disk) (s : Separation) (q : Approach) → IsValidPair rules a b → IsSeparation a b s →
    (FitsTheBox rules s.places → Told s (reach_of rules a) q) → FitsTheBox rules (separation_of a b) →
    IsApproachOf s.places s.velocities (reach_of rules a) q × IsFit q
near_reach rules a b s q pair sep told near =
    let here = subst (λ (r : Vector). FitsTheBox rules r) (sym (places_are a b s sep)) near in
    near_approach rules a b s (reach_of rules a) q pair sep (whole_reach rules a b pair) here (told here)

-- and a test of it is exact
pub exact_near : (rules : Rules) (a b : Disk) (s : Separation) (q : Approach) (tells : Bool) → IsValidPair rules a b →
    IsSeparation a b s → (FitsTheBox rules s.places → Told s (reach_of rules a) q) → (IsTrue tells ↔ IsCourse q) →
    FitsTheBox rules (separation_of a b) → IsTrue tells ↔ DoCoursesCrossAt (reach_of rules a) a b
exact_near rules a b s q tells pair sep told test near =
    let are = near_reach rules a b s q pair sep told near in
    let same = courses_cross a b s (reach_of rules a) q sep are.0 in
    (λ h. same.0 (test.0 h), λ h. test.1 (same.1 h))
