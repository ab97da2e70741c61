-- What each region keeps, in terms of its value.
use Rattle.std.proofs.Common.{◌≡◌, Option, Some, None, subst, sym, refl}
use Rattle.std.specs.Prelude.{option_map, IfSome}
use Rattle.event_stamps.specs.declared.Stamp.{Stamp}
use Rattle.local_run.specs.declared.home.Home.{Home}
use Rattle.region_parts.specs.declared.place.Place.{Place}
use Rattle.region_core.specs.declared.live.Live.{Live}
use Rattle.local_run.specs.LocalRun.{IsRight}
use Rattle.local_run.specs.Opening.{RegionData}
use Rattle.region_core.specs.Live.{run_in, IsLive, IsSound}
use Rattle.local_run.specs.Keeping.{IsKept}
use Rattle.local_run.specs.RunOn.{BeginsAs}

pub kept_is : (place : Place) (live : Option Live) (region : RegionData) →
    record { home = place.home; floor = place.floor; run = option_map (run_in place.floor) live } ≡ region →
    IsSound place live → IsKept region
kept_is place live region is sound = subst IsKept is record {
  place = sound.place.home;
  floor = sound.place.floor;
  run = right live sound.alive;
  begins = begins live;
}
  where
    right : (o : Option Live) → IfSome o (IsLive place) →
        IfSome (option_map (run_in place.floor) o) (IsRight place.home)
    right None h = h
    right (Some live) h = h.body.right

    begins : (o : Option Live) → IfSome (option_map (run_in place.floor) o) (λ run. run.floor ≡ place.floor)
    begins None = tt
    begins (Some live) = refl

-- ---- what it keeps after a step
pub still_sound : (place : Place) (old new : Option Live) → IsSound place old → IfSome new (IsLive place) →
    IsSound place new
still_sound place old new sound alive = record {
  place = sound.place;
  alive = alive;
}

pub spent_sound : (place : Place) (old new : Option Live) → IsSound place old → new ≡ None → IsSound place new
spent_sound place old new sound gone =
    still_sound place old new sound (subst (λ (o : Option Live). IfSome o (IsLive place)) (sym gone) tt)

pub body_is : (place : Place) (o : Option Live) (live : Live) → IsSound place o → o ≡ Some live → IsLive place live
body_is place o live sound here = subst (λ (p : Option Live). IfSome p (IsLive place)) here sound.alive

-- it begins as it did, if it is as it was
pub still_begins : (home : Home) (floor : Stamp) (live : Option Live) (region : RegionData) →
    record { home = home; floor = floor; run = option_map (run_in floor) live } ≡ region →
    BeginsAs region (record { home = home; floor = floor; run = option_map (run_in floor) live })
still_begins home floor live region is = subst (λ (old : RegionData). BeginsAs old
    (record { home = home; floor = floor; run = option_map (run_in floor) live })) is record {
      home = refl;
      floor = refl;
      base = refl;
    }
