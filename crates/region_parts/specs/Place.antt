-- The place of a region.
use Rattle.event_stamps.specs.declared.Stamp.{Stamp}
use Rattle.event_stamps.specs.Order.{Before, end_stamp}
use Rattle.local_run.specs.LocalRun.{IsInPlace}
use Rattle.region_parts.specs.declared.place.Place.{Place}
use Rattle.region_parts.specs.Border.{IsBorderOf}

-- a region of a grid of checked rules, the columns that no other region sees, and a floor not after the end
pub record IsPlace (place : Place) : Type 0 where
  pub home : IsInPlace place.home
  pub far : IsBorderOf place.home place.border
  pub floor : ¬ Before (end_stamp place.home.rules.end) place.floor

-- the same with another floor
abbrev pub at_floor : Stamp → Place → Place
at_floor to place = record place { floor = to }
