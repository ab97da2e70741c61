-- Each event of a run, from any state, against that of real disks: when it comes, and what it does.
use Rattle.std.specs.Prelude.{◌≡◌, ◌⊎◌, ℕ, ◌<◌, List, ◌∷◌, ◌++◌, fold, slice_get, Some, None}
use Rattle.plane_vectors.specs.declared.Vector.{Vector}
use Rattle.plane_vectors.specs.Vectors.{sum, difference}
use Rattle.fixed_motion.specs.declared.rules.Rules.{Rules}
use Rattle.fixed_motion.specs.declared.disk.Disk.{Disk}
use Rattle.fixed_motion.specs.Motion.{place_of, velocity_of}
use Rattle.event_stamps.specs.declared.Stamp.{Stamp}
use Rattle.event_stamps.specs.declared.Kind.TheVariants.{Wall, Pair}
use Rattle.event_rules.specs.declared.change.Change.{Change}
use Rattle.event_rules.specs.declared.change.Limit.{Limit}
use Rattle.event_rules.specs.declared.change.Limit.TheVariants.{Rounds, Speed}
use Rattle.event_rules.specs.declared.outcome.Outcome.{Outcome}
use Rattle.event_rules.specs.declared.outcome.Outcome.TheVariants.{Limit as Passes}
use Rattle.event_rules.specs.Events.{IsWallTick}
use Rattle.event_rules.specs.Effect.{turned}
use Rattle.event_rules.specs.Run.{Runs, effect}
use Rattle.real_collisions.specs.Touching.{TouchFrom}
use Rattle.real_collisions.specs.Elastic.{IsNearlyElastic}

-- ---- when
-- the event of a disk that is inside at its tick, and would be past its side a tick later
pub record IsRealBounce (rules : Rules) (disks : List Disk) (s : Stamp) : Type 0 where
  pub kind : s.kind ≡ Wall
  pub disk : Disk
  pub at : slice_get disks s.first ≡ Some disk
  pub passes : IsWallTick rules disk s.second s.tick

-- the event of two disks that touch from its tick on
pub record IsRealCollision (disks : List Disk) (s : Stamp) : Type 0 where
  pub kind : s.kind ≡ Pair
  pub first : Disk
  pub second : Disk
  pub order : s.first < s.second
  pub first_at : slice_get disks s.first ≡ Some first
  pub second_at : slice_get disks s.second ≡ Some second
  pub touch : TouchFrom first second s.tick

-- the event is a real one of this state, of one disk or of two
abbrev pub IsReal : Rules → List Disk → Stamp → Type 0
IsReal rules disks s = IsRealBounce rules disks s ⊎ IsRealCollision disks s

-- each event of a run is a real one of the state before it
abbrev pub EventsAreReal : Type 0
EventsAreReal = (rules : Rules) (disks : List Disk) (before after : List Change) (c : Change) (outcome : Outcome) →
    Runs rules disks (before ++ (c ∷ after)) outcome → IsReal rules (fold effect disks before) c.stamp

-- the stamp of the event that fails
abbrev pub stamp_of_limit : Limit → Stamp
stamp_of_limit (Rounds s) = s
stamp_of_limit (Speed s) = s

-- the event that fails a limit is a real one, too
abbrev pub FailingEventsAreReal : Type 0
FailingEventsAreReal = (rules : Rules) (disks : List Disk) (changes : List Change) (limit : Limit) →
    Runs rules disks changes (Passes limit) → IsReal rules (fold effect disks changes) (stamp_of_limit limit)

-- ---- what it does
-- a disk stays at its place at the tick of the event, and has this velocity then
pub record GoesOnWith (a : Disk) (tick : ℕ) (velocity : Vector) (x : Disk) : Type 0 where
  pub place : place_of x tick ≡ place_of a tick
  pub velocity_after : velocity_of x ≡ velocity

-- at a side the velocity is turned
pub record IsElasticBounce (disks : List Disk) (c : Change) : Type 0 where
  pub kind : c.stamp.kind ≡ Wall
  pub disk : Disk
  pub at : slice_get disks c.stamp.first ≡ Some disk
  pub goes_on : GoesOnWith disk c.stamp.tick (turned c.stamp.second (velocity_of disk)) c.first
  pub alone : c.second ≡ None

-- of two disks the first gets an impulse, and the second loses it
pub record IsElasticCollision (disks : List Disk) (c : Change) : Type 0 where
  pub kind : c.stamp.kind ≡ Pair
  pub first : Disk
  pub second : Disk
  pub later : Disk
  pub impulse : Vector
  pub first_at : slice_get disks c.stamp.first ≡ Some first
  pub second_at : slice_get disks c.stamp.second ≡ Some second
  pub elastic : IsNearlyElastic (difference (place_of first c.stamp.tick) (place_of second c.stamp.tick))
      (difference (velocity_of first) (velocity_of second)) impulse
  pub first_goes_on : GoesOnWith first c.stamp.tick (sum (velocity_of first) impulse) c.first
  pub second_later : c.second ≡ Some later
  pub second_goes_on : GoesOnWith second c.stamp.tick (difference (velocity_of second) impulse) later

-- each event of a run is elastic: exactly at a side, and nearly for two disks
abbrev pub EventsAreElastic : Type 0
EventsAreElastic = (rules : Rules) (disks : List Disk) (before after : List Change) (c : Change) (outcome : Outcome) →
    Runs rules disks (before ++ (c ∷ after)) outcome →
    IsElasticBounce (fold effect disks before) c ⊎ IsElasticCollision (fold effect disks before) c
