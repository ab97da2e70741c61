-- What rounded numbers tell of two disks.
use Rattle.std.specs.Prelude.{◌≡◌, ◌↔◌, Bool, IsTrue, false, ◌*ℤ◌}
use Rattle.plane_vectors.specs.Vectors.{difference, dot}
use Rattle.fixed_motion.specs.declared.rules.Rules.{Rules}
use Rattle.fixed_motion.specs.declared.disk.Disk.{Disk}
use Rattle.fixed_motion.specs.Motion.{velocity_of}
use Rattle.contact_predictor.specs.Contact.{gap}
use Rattle.event_rules.specs.declared.lanes.EachReach.{EachReach}
use Rattle.event_rules.specs.Events.{NeverHit}
use Rattle.event_rules.specs.Lanes.{Hold}
use Rattle.event_rules.specs.Pairs.{IsValidPair, FitsTheBox, DoCoursesCrossAt, reach_of}
use Rattle.event_rules.specs.Predict.{separation_of}
use Rattle.event_rules.specs.Scale.{speed_bits, place_bits, CrossRounded}

-- the squares of the reaches of two disks, and by how many bits the numbers of their scene are rounded
pub record IsReachOf (rules : Rules) (a b : Disk) (reach : EachReach) : Type 0 where
  pub squares : Hold reach.squares (reach_of rules a *ℤ reach_of rules a) (reach_of rules b *ℤ reach_of rules b)
  pub speeds : reach.scale.speeds ≡ speed_bits rules
  pub places : reach.scale.places ≡ place_bits rules

-- at the later of their base ticks, in rounded numbers, two disks come nearer to each other, and overlap or have paths that
-- cross if they touch at the reach of the first
abbrev pub DoCoursesCrossRounded : Rules → Disk → Disk → Type 0
DoCoursesCrossRounded rules a b =
    let r = separation_of a b in
    let u = difference (velocity_of a) (velocity_of b) in
    CrossRounded (speed_bits rules) (place_bits rules) (dot u u) (dot r u) (gap r (reach_of rules a))

-- what rounded numbers tell of two disks: if they say no, the two never hit each other, and within the box they tell whether
-- their courses cross in rounded numbers, which is exact if there are no bits to round
pub record TellsRounded (rules : Rules) (a b : Disk) (may : Bool) : Type 0 where
  pub rounded : IsValidPair rules a b → FitsTheBox rules (separation_of a b) → (IsTrue may ↔ DoCoursesCrossRounded rules a b)
  pub exact : IsValidPair rules a b → FitsTheBox rules (separation_of a b) → speed_bits rules ≡ 0 → place_bits rules ≡ 0 →
      (IsTrue may ↔ DoCoursesCrossAt (reach_of rules a) a b)
  pub never : IsValidPair rules a b → may ≡ false → NeverHit rules a b
  pub never_turned : IsValidPair rules a b → may ≡ false → NeverHit rules b a
