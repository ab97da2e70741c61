-- When two disks really touch, told by their places alone.
use Rattle.std.specs.Prelude.{◌≡◌, ℕ, ◌<◌, ◌≤◌, ◌↔◌}
use Rattle.fixed_motion.specs.declared.rules.Rules.{Rules}
use Rattle.fixed_motion.specs.declared.disk.Disk.{Disk}
use Rattle.fixed_motion.specs.Motion.{Overlaps, contact_distance, place_of}
use Rattle.event_rules.specs.Events.{IsContactTick}
use Rattle.event_rules.specs.Predict.{HaveBegun, AreInside}
use Rattle.event_rules.specs.Moments.{Moment, IsWithinTick, OverlapAt}

-- On their straight ways two disks touch for the first time at this tick or after it, and before the next one: from the
-- tick on from which both ways have begun, they don't overlap up to this tick, and they would at a moment from it to
-- the next one.
pub record TouchFrom (a b : Disk) (tick : ℕ) : Type 0 where
  pub before : (m : Moment) → IsWithinTick m → a.base ≤ m.tick → b.base ≤ m.tick → m.tick < tick → ¬ OverlapAt m a b
  pub apart : ¬ Overlaps (contact_distance a b) (place_of a tick) (place_of b tick)
  pub moment : Moment
  pub within : IsWithinTick moment
  pub from : moment.tick ≡ tick
  pub overlap : OverlapAt moment a b

-- the contact tick of two disks inside the box is the tick from which on they really touch
abbrev pub ContactTicksAreReal : Type 0
ContactTicksAreReal = (rules : Rules) (a b : Disk) (tick : ℕ) → HaveBegun a b tick → AreInside rules a b tick →
    (IsContactTick rules a b tick ↔ TouchFrom a b tick)
