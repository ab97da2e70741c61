-- What rounded numbers tell of two disks.
use Rattle.std.proofs.Common.{◌≡◌, ◌↔◌, ℕ, ◌+◌, ◌*◌, ◌^◌, ◌<◌, ◌≤◌, Bool, false, IsTrue, arith, refl, sym, ap, subst, ◌∙◌}
use Rattle.std.specs.Prelude.{ℤ, pos, nat_abs, ◌+ℤ◌, ◌-ℤ◌, ◌*ℤ◌, ◌≤ℤ◌}
use Rattle.std.proofs.lemmas.Int.{ints}
use Rattle.std.proofs.lemmas.Nat.{pow-add}
use Rattle.std.proofs.Math.Nat.{mul-le-mul, pow-le-pow_right}
use Rattle.plane_vectors.specs.declared.Vector.{Vector}
use Rattle.plane_vectors.specs.Vectors.{difference, dot, IsWithin}
use Rattle.plane_vectors.proofs.Products.{square_not_negative}
use Rattle.plane_vectors.proofs.Sizes.{size_of_product, dot_size}
use Rattle.fixed_motion.specs.declared.rules.Rules.{Rules}
use Rattle.fixed_motion.specs.declared.disk.Disk.{Disk}
use Rattle.fixed_motion.specs.Rules.{IsChecked}
use Rattle.fixed_motion.specs.Motion.{IsValidDisk, velocity_of, radius_of, half_of}
use Rattle.fixed_motion.proofs.Sizes.{radius_least, two_radii}
use Rattle.contact_predictor.specs.declared.approach.Approach.{Approach}
use Rattle.contact_predictor.specs.Contact.{gap}
use Rattle.contact_predictor.specs.Approach.{IsApproachOf, IsFit}
use Rattle.contact_predictor.proofs.Approaching.{speed_not_negative}
use Rattle.event_rules.specs.declared.separation.Separation.{Separation}
use Rattle.event_rules.specs.Events.{IsContactTick}
use Rattle.event_rules.specs.Predict.{IsSeparation, separation_of}
use Rattle.event_rules.specs.Pairs.{IsValidPair, FitsTheBox, DoCoursesCrossAt, reach_of}
use Rattle.event_rules.specs.Rounded.{DoCoursesCrossRounded, TellsRounded}
use Rattle.event_rules.specs.Scale.{bits_past, speed_bits, place_bits, CrossRounded, FitRounded}
use Rattle.event_rules.proofs.Approaches.{contact_fits, near_reach, never_near}
use Rattle.event_rules.proofs.Leads.{two_halves}
use Rattle.event_rules.proofs.Reaches.{IsTold}
use Rattle.event_rules.proofs.Rounding.{enough_bits, rounded, unshifted}
use Rattle.event_rules.proofs.Separations.{places_are}
use Rattle.event_rules.proofs.Swapped.{never_hit, never_hit_turned}

-- ---- sizes
dot_within : (m n : ℕ) (a b : Vector) → IsWithin m a → IsWithin n b → nat_abs (dot a b) ≤ 2 * (m * n)
dot_within m n a b h k =
    let along : nat_abs a.x * nat_abs b.x ≤ m * n = mul-le-mul h.x k.x in
    let up : nat_abs a.y * nat_abs b.y ≤ m * n = mul-le-mul h.y k.y in
    let sum = dot_size a b in
    omega arith

-- how far two disks are apart, how fast that changes, and at what distance they touch, in a scene of this scale
record AreOfScale (speeds places : ℕ) (r u : Vector) (distance : ℤ) : Type 0 where
  pub separation : IsWithin (32768 * 2 ^ places) r
  pub velocity : IsWithin (32768 * 2 ^ speeds) u
  pub reach : nat_abs distance ≤ 32768 * 2 ^ places

fit_of_scale : (speeds places : ℕ) (r u : Vector) (distance : ℤ) (q : Approach) → AreOfScale speeds places r u distance →
    IsApproachOf r u distance q → IsFit q → FitRounded speeds places q.square q.closing q.gap
fit_of_scale speeds places r u distance q are of fit =
    let s : ℕ = 32768 * 2 ^ speeds in
    let l : ℕ = 32768 * 2 ^ places in
    let square = dot_within s s u u are.velocity are.velocity in
    let closing = dot_within l s r u are.separation are.velocity in
    let length = dot_within l l r r are.separation are.separation in
    let touch = size_of_product distance distance l l are.reach are.reach in
    let apart = less (dot r r) (distance *ℤ distance) (l * l) (speed_not_negative r) (square_not_negative distance) length touch in
    let most = fit.gap in
    record {
      not_negative = fit.not_negative;
      square = rw (of.square, twice speeds) (omega (arith, square));
      closing = rw (of.closing, pow-add 2 speeds places) (omega (arith, closing));
      gap = rw (of.gap, twice places) (omega (arith, apart));
      gap_fits = omega arith;
    }
  where
    less : (m n : ℤ) (k : ℕ) → pos 0 ≤ℤ m → pos 0 ≤ℤ n → nat_abs m ≤ 2 * k → nat_abs n ≤ k → nat_abs (m -ℤ n) ≤ 2 * k
    less m n k p q h l = omega (arith, ints)

    twice : (k : ℕ) → 2 ^ (2 * k) ≡ 2 ^ k * 2 ^ k
    twice k = ap (λ (n : ℕ). 2 ^ n) (double k) ∙ pow-add 2 k k
      where
        double : (k : ℕ) → 2 * k ≡ k + k
        double k = omega arith

-- no reach is longer than the box
reach_within : (rules : Rules) (a : Disk) → IsChecked rules → IsValidDisk rules a → nat_abs (reach_of rules a) ≤ nat_abs rules.width
reach_within rules a checked valid =
    within (half_of rules.diameter) (radius_of a) rules.diameter rules.width (two_halves rules.diameter checked.diameter.0 checked.diameter_even)
    (radius_least rules a valid.size) (two_radii rules a valid.size) checked.diameter.0 checked.diameter.1
  where
    within : (h k d w : ℤ) → h +ℤ h ≡ d → pos 1 ≤ℤ k → (k +ℤ k) ≤ℤ d → pos 2 ≤ℤ d → d ≤ℤ w → nat_abs (h +ℤ k) ≤ nat_abs w
    within h k d w two p q l m = omega (arith, ints)

-- two disks in the box are of its scale
of_scale : (rules : Rules) (a b : Disk) (r u : Vector) → IsValidPair rules a b → u ≡ difference (velocity_of a) (velocity_of b) →
    FitsTheBox rules r → AreOfScale (speed_bits rules) (place_bits rules) r u (reach_of rules a)
of_scale rules a b r u pair same near =
    let checked = pair.checked in
    let slow = enough_bits 14 rules.speed_limit (positive rules.speed_limit 1 checked.speed_limit.0) (few rules.speed_limit 1048576 (omega arith) checked.speed_limit.1) in
    let wide = enough_bits 15 rules.width (positive rules.width 2 checked.width.0) checked.width.1 in
    let high = enough_bits 15 rules.height (positive rules.height 2 checked.height.0) checked.height.1 in
    let width = side (bits_past 15 rules.width) (place_bits rules) (nat_abs rules.width) (omega arith) wide in
    let height = side (bits_past 15 rules.height) (place_bits rules) (nat_abs rules.height) (omega arith) high in
    let first = pair.first.velocity in
    let second = pair.second.velocity in
    let reach = reach_within rules a checked pair.first in
    let x = near.x in
    let y = near.y in
    record {
      separation = record { x = omega arith; y = omega arith };
      velocity = subst (λ (v : Vector). IsWithin (32768 * 2 ^ speed_bits rules) v) (sym same) (record {
        x = speed a.vx b.vx (speed_bits rules) (nat_abs rules.speed_limit) slow first.x second.x;
        y = speed a.vy b.vy (speed_bits rules) (nat_abs rules.speed_limit) slow first.y second.y;
      });
      reach = omega arith;
    }
  where
    positive : (n : ℤ) (k : ℕ) → pos k ≤ℤ n → pos 0 ≤ℤ n
    positive n k h = omega (arith, ints)

    few : (n : ℤ) (k : ℕ) → k ≤ 1073741824 → n ≤ℤ pos k → n ≤ℤ pos 1073741824
    few n k h l = omega (arith, ints)

    side : (bits most n : ℕ) → bits ≤ most → n < 2 ^ (15 + bits) → n ≤ 32768 * 2 ^ most
    side bits most n le lt =
        let power : 2 ^ (15 + bits) ≤ 2 ^ (15 + most) = pow-le-pow_right (omega arith) (omega arith) in
        let whole : 2 ^ (15 + most) ≡ 32768 * 2 ^ most = pow-add 2 15 most in
        omega arith

    speed : (v w : ℤ) (bits limit : ℕ) → limit < 2 ^ (14 + bits) → nat_abs v ≤ limit → nat_abs w ≤ limit →
        nat_abs (v -ℤ w) ≤ 32768 * 2 ^ bits
    speed v w bits limit lt hv hw =
        let whole : 2 ^ (14 + bits) ≡ 16384 * 2 ^ bits = pow-add 2 14 bits in
        let size = apart v w limit hv hw in
        omega arith
      where
        apart : (v w : ℤ) (k : ℕ) → nat_abs v ≤ k → nat_abs w ≤ k → nat_abs (v -ℤ w) ≤ 2 * k
        apart v w k h l = omega (arith, ints)

-- ---- answers
-- a test of the rounded quadratic
pub tells_rounded : (rules : Rules) (a b : Disk) (q : Approach) (may : Bool) →
    (IsValidPair rules a b → IsTold (reach_of rules a *ℤ reach_of rules a) rules a b q) →
    (FitRounded (speed_bits rules) (place_bits rules) q.square q.closing q.gap → IsTrue may ↔
    CrossRounded (speed_bits rules) (place_bits rules) q.square q.closing q.gap) →
    TellsRounded rules a b may
tells_rounded rules a b q may told test = record {
  rounded = within;
  exact = λ pair near slow small. without_bits pair near slow small (within pair near);
  never = λ pair none. never_hit rules a b (misses pair none);
  never_turned = λ pair none. never_hit_turned rules a b (misses pair none);
}
  where
    fits : (s : Separation) → IsValidPair rules a b → IsSeparation a b s → FitsTheBox rules s.places →
        IsApproachOf s.places s.velocities (reach_of rules a) q → IsFit q →
        FitRounded (speed_bits rules) (place_bits rules) q.square q.closing q.gap
    fits s pair sep near of fit =
        fit_of_scale (speed_bits rules) (place_bits rules) s.places s.velocities (reach_of rules a) q
        (of_scale rules a b s.places s.velocities pair sep.velocities near) of fit

    same : (s : Separation) → IsSeparation a b s → IsApproachOf s.places s.velocities (reach_of rules a) q →
        (IsTrue may ↔ CrossRounded (speed_bits rules) (place_bits rules) q.square q.closing q.gap) → (IsTrue may ↔ DoCoursesCrossRounded rules a b)
    same s sep of told =
        alike s.places (separation_of a b) s.velocities (difference (velocity_of a) (velocity_of b)) of (places_are a b s sep) sep.velocities told
      where
        alike : (r r' u u' : Vector) → IsApproachOf r u (reach_of rules a) q → r ≡ r' → u ≡ u' →
            (IsTrue may ↔ CrossRounded (speed_bits rules) (place_bits rules) q.square q.closing q.gap) →
            (IsTrue may ↔ CrossRounded (speed_bits rules) (place_bits rules) (dot u' u') (dot r' u') (gap r' (reach_of rules a)))
        alike r r' u u' of er eu told = rw (← er, ← eu, ← of.square, ← of.closing, ← of.gap) told

    within : IsValidPair rules a b → FitsTheBox rules (separation_of a b) → (IsTrue may ↔ DoCoursesCrossRounded rules a b)
    within pair near =
        let at = told pair in
        let are = near_reach rules a b at.apart q pair at.is (at.told (reach_of rules a) refl) near in
        let here = subst (λ (r : Vector). FitsTheBox rules r) (sym (places_are a b at.apart at.is)) near in
        same at.apart at.is are.0 (test (fits at.apart pair at.is here are.0 are.1))

    without_bits : IsValidPair rules a b → FitsTheBox rules (separation_of a b) → speed_bits rules ≡ 0 → place_bits rules ≡ 0 →
        (IsTrue may ↔ DoCoursesCrossRounded rules a b) → (IsTrue may ↔ DoCoursesCrossAt (reach_of rules a) a b)
    without_bits pair near slow small told =
        let r = separation_of a b in
        let u = difference (velocity_of a) (velocity_of b) in (
          λ h.
              let crosses = told.0 h in
              record {
                nearing = crosses.nearing;
                crossing = unshifted (speed_bits rules) (place_bits rules) (dot u u) (dot r u) (gap r (reach_of rules a)) slow small (speed_not_negative u) crosses;
              },
          λ h. told.1 (rounded (speed_bits rules) (place_bits rules) (dot u u) (dot r u) (gap r (reach_of rules a)) (speed_not_negative u) h.nearing h.crossing),
        )

    misses : IsValidPair rules a b → may ≡ false → (tick : ℕ) → IsContactTick rules a b tick → ⊥
    misses pair none tick contact =
        let at = told pair in
        let near = contact_fits rules a b at.apart tick pair at.is contact in
        let here = subst (λ (r : Vector). FitsTheBox rules r) (places_are a b at.apart at.is) near in
        let are = near_reach rules a b at.apart q pair at.is (at.told (reach_of rules a) refl) here in
        never_near rules a b at.apart q may pair at.is (at.told (reach_of rules a) refl)
        (λ fit course. (test (fits at.apart pair at.is near are.0 fit)).1
        (rounded (speed_bits rules) (place_bits rules) q.square q.closing q.gap fit.not_negative course.0 course.1)) none tick contact
