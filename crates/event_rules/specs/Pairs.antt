-- Two disks at the later of their base ticks: how far apart they can be, and whether their courses cross.
use Rattle.std.specs.Prelude.{◌≡◌, ◌↔◌, ◌≤◌, Bool, IsTrue, false, ℤ, pos, nat_abs, ◌+ℤ◌, ◌*ℤ◌, ◌<ℤ◌}
use Rattle.plane_vectors.specs.declared.Vector.{Vector}
use Rattle.plane_vectors.specs.Vectors.{difference, dot}
use Rattle.fixed_motion.specs.declared.rules.Rules.{Rules}
use Rattle.fixed_motion.specs.declared.disk.Disk.{Disk}
use Rattle.fixed_motion.specs.Rules.{IsChecked}
use Rattle.fixed_motion.specs.Motion.{IsValidDisk, velocity_of, radius_of, half_of}
use Rattle.contact_predictor.specs.declared.approach.Approach.{Approach}
use Rattle.contact_predictor.specs.Contact.{IsCollisionCourse}
use Rattle.contact_predictor.specs.Approach.{IsApproachOf, IsFit}
use Rattle.event_rules.specs.declared.separation.Separation.{Separation}
use Rattle.event_rules.specs.Events.{NeverHit}
use Rattle.event_rules.specs.Predict.{IsSeparation, separation_of}

-- two valid disks of checked rules
pub record IsValidPair (rules : Rules) (a b : Disk) : Type 0 where
  pub checked : IsChecked rules
  pub first : IsValidDisk rules a
  pub second : IsValidDisk rules b

-- on neither axis farther apart than the box is long, as the centres of two disks in the box are
pub record FitsTheBox (rules : Rules) (r : Vector) : Type 0 where
  pub x : nat_abs r.x ≤ nat_abs rules.width
  pub y : nat_abs r.y ≤ nat_abs rules.height

-- the greatest distance at which a disk touches another one: one of the greatest diameter
abbrev pub reach_of : Rules → Disk → ℤ
reach_of rules a = half_of rules.diameter +ℤ radius_of a

-- at the later of their base ticks two disks come nearer to each other, on paths that cross if they touch at this distance
pub record DoCoursesCrossAt (distance : ℤ) (a b : Disk) : Type 0 where
  pub nearing : dot (separation_of a b) (difference (velocity_of a) (velocity_of b)) <ℤ pos 0
  pub crossing : IsCollisionCourse (separation_of a b) (difference (velocity_of a) (velocity_of b)) distance

-- what the square of the first one's reach tells of two disks: if it says no, they never hit each other, and within the
-- box it tells whether their courses cross if they touch at that reach
pub record TellsByReach (square : ℤ) (a b : Disk) (may : Bool) : Type 0 where
  pub exact : (rules : Rules) → IsValidPair rules a b → square ≡ reach_of rules a *ℤ reach_of rules a →
      FitsTheBox rules (separation_of a b) → (IsTrue may ↔ DoCoursesCrossAt (reach_of rules a) a b)
  pub never : (rules : Rules) → IsValidPair rules a b → square ≡ reach_of rules a *ℤ reach_of rules a → may ≡ false → NeverHit rules a b
  pub never_turned : (rules : Rules) → IsValidPair rules a b → square ≡ reach_of rules a *ℤ reach_of rules a → may ≡ false → NeverHit rules b a

-- the quadratic of two disks in a box
pub record IsFitApproach (s : Separation) (q : Approach) : Type 0 where
  pub of : IsApproachOf s.places s.velocities s.distance q
  pub fits : IsFit q

-- the quadratic of any two valid disks at this separation, within the box
abbrev pub IsApproachAt : Separation → Approach → Type 0
IsApproachAt s q = (rules : Rules) (a b : Disk) → IsValidPair rules a b → IsSeparation a b s → FitsTheBox rules s.places →
    IsFitApproach s q
