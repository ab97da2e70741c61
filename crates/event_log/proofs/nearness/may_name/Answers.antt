use Rattle.std.proofs.Common.{◌≡◌, ◌≢◌, ℕ, ◌==◌, Bool, true, false, refl, arith}
use Rattle.std.specs.Prelude.{◌||◌}
use Rattle.event_stamps.specs.declared.Stamp.{Stamp}
use Rattle.event_log.specs.declared.nearness.Sides.{Sides}
use Rattle.event_log.specs.Nearness.{AreUnnamed}
use Rattle.event_log.proofs.nearness.may_name.Goals as goal

first_off : (a b : Bool) → (a || b) ≡ false → a ≡ false
first_off true b off = off
first_off false b off = refl

second_off : (a b : Bool) → (a || b) ≡ false → b ≡ false
second_off true b off = absurd (differ off)
  where
    differ : true ≡ false → ⊥
    differ e = cc
second_off false b off = off

apart : (i j : ℕ) → (i == j) ≡ false → i ≢ j
apart i j off = grind arith

unnamed : (s : Stamp) (sides : Sides) →
    ((((s.first == sides.first.disk) || (s.first == sides.second.disk)) || (s.second == sides.first.disk))
    || (s.second == sides.second.disk)) ≡ false → AreUnnamed s sides
unnamed s sides off =
    let three = first_off _ _ off in
    let two = first_off _ _ three in (
      (apart s.first sides.first.disk (first_off _ _ two), apart s.second sides.first.disk (second_off _ _ three)),
      (apart s.first sides.second.disk (second_off _ _ two), apart s.second sides.second.disk (second_off _ _ off)),
    )

pub returns : goal.returns
returns c = λ off. unnamed c.args.stamp.now c.args.sides.now off
