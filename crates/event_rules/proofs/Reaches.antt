-- What the square of a disk's reach tells of it and another one.
use Rattle.std.proofs.Common.{◌≡◌, ◌↔◌, ◌^◌, ◌*◌, ◌≤◌, ◌%◌, Bool, IsTrue, arith}
use Rattle.std.specs.Prelude.{ℤ, pos, nat_abs, ◌+ℤ◌, ◌*ℤ◌, ◌≤ℤ◌, FitsSigned}
use Rattle.std.proofs.lemmas.Int.{ints}
use mir.Syntax.{w64}
use lib.Signed.{quot_z}
use Rattle.plane_vectors.proofs.Sizes.{sent, sent_same, size_of_product}
use Rattle.fixed_motion.specs.declared.rules.Rules.{Rules}
use Rattle.fixed_motion.specs.declared.disk.Disk.{Disk}
use Rattle.fixed_motion.specs.Rules.{IsChecked}
use Rattle.fixed_motion.specs.Motion.{IsValidDisk, half_of}
use Rattle.contact_predictor.specs.declared.approach.Approach.{Approach}
use Rattle.contact_predictor.specs.Approach.{IsApproachOf, FitsApproach, IsCourse}
use Rattle.event_rules.specs.declared.separation.Separation.{Separation}
use Rattle.event_rules.specs.Predict.{IsSeparation}
use Rattle.event_rules.specs.Pairs.{IsValidPair, FitsTheBox, TellsByReach, reach_of}
use Rattle.event_rules.proofs.Approaches.{never_near, exact_near}
use Rattle.event_rules.proofs.Leads.{two_halves, half_whole}
use Rattle.event_rules.proofs.Separations.{small_same}
use Rattle.event_rules.proofs.Swapped.{never_hit, never_hit_turned}

-- ---- the square
-- as the code computes it from the greatest diameter and a size
abbrev half_sent : ℤ → ℤ → ℤ
half_sent d size = sent (quot_z (sent (sent d +ℤ sent size)) (pos 2))

pub record IsSquare (d size : ℤ) : Type 0 where
  pub fits : FitsSigned w64 (half_sent d size *ℤ half_sent d size)
  pub value : sent (half_sent d size *ℤ half_sent d size) ≡ (half_of d +ℤ half_of size) *ℤ (half_of d +ℤ half_of size)

square_is : (d size : ℤ) → pos 2 ≤ℤ d → d ≤ℤ pos 1073741824 → pos 2 ≤ℤ size → size ≤ℤ d → nat_abs d % 2 ≡ 0 → nat_abs size % 2 ≡ 0 →
    IsSquare d size
square_is d size least most least_size most_size even even_size =
    let first : sent d ≡ d = small_same d (omega (arith, ints)) in
    let second : sent size ≡ size = small_same size (omega (arith, ints)) in
    let whole : sent (d +ℤ size) ≡ d +ℤ size = sent_same (d +ℤ size) (omega (arith, ints)) in
    let half : quot_z (d +ℤ size) (pos 2) ≡ half_of d +ℤ half_of size = half_whole d size least least_size even even_size in
    let small = halves (half_of d) (half_of size) (two_halves d least even) (two_halves size least_size even_size) in
    let is : half_sent d size ≡ half_of d +ℤ half_of size =
    rw (first, second, whole, half) (small_same (half_of d +ℤ half_of size) small) in
    let fits = within ((half_of d +ℤ half_of size) *ℤ (half_of d +ℤ half_of size))
    (size_of_product (half_of d +ℤ half_of size) (half_of d +ℤ half_of size) (2 ^ 30) (2 ^ 30) small small) in
    record { fits = rw is fits; value = rw is (sent_same ((half_of d +ℤ half_of size) *ℤ (half_of d +ℤ half_of size)) fits) }
  where
    halves : (h k : ℤ) → h +ℤ h ≡ d → k +ℤ k ≡ size → nat_abs (h +ℤ k) ≤ 2 ^ 30
    halves h k p q = omega (arith, ints)

    within : (z : ℤ) → nat_abs z ≤ 2 ^ 30 * 2 ^ 30 → FitsSigned w64 z
    within z h = omega (arith, ints)

pub square_of : (rules : Rules) (a : Disk) → IsChecked rules → IsValidDisk rules a → IsSquare rules.diameter a.size
square_of rules a checked valid =
    square_is rules.diameter a.size checked.diameter.0 (below rules.diameter rules.width checked.diameter.1 checked.width.1)
    valid.size.range.0 valid.size.range.1 checked.diameter_even valid.size.even
  where
    below : (d w : ℤ) → d ≤ℤ w → w ≤ℤ pos 1073741824 → d ≤ℤ pos 1073741824
    below d w h k = omega (arith, ints)

-- ---- what it tells
-- if the code's quadratic of two disks in the box fits, it is that of their separation if they touch at a distance of
-- this square
pub record IsTold (square : ℤ) (rules : Rules) (a b : Disk) (q : Approach) : Type 0 where
  pub apart : Separation
  pub is : IsSeparation a b apart
  pub told : (distance : ℤ) → square ≡ distance *ℤ distance → FitsTheBox rules apart.places → FitsApproach apart.places apart.velocities distance →
      IsApproachOf apart.places apart.velocities distance q

pub tells_by_reach : (square : ℤ) (a b : Disk) (q : Approach) (may : Bool) →
    ((rules : Rules) → IsValidPair rules a b → IsTold square rules a b q) → (IsTrue may ↔ IsCourse q) → TellsByReach square a b may
tells_by_reach square a b q may apart test = record {
  exact = λ rules pair reach near.
      let at = apart rules pair in exact_near rules a b at.apart q may pair at.is (at.told (reach_of rules a) reach) test near;
  never = λ rules pair reach no.
      let at = apart rules pair in
      never_hit rules a b (never_near rules a b at.apart q may pair at.is (at.told (reach_of rules a) reach) (λ _. test.1) no);
  never_turned = λ rules pair reach no.
      let at = apart rules pair in
      never_hit_turned rules a b (never_near rules a b at.apart q may pair at.is (at.told (reach_of rules a) reach) (λ _. test.1) no);
}
