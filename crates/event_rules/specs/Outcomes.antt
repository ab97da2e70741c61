-- The form of the changes and the outcome of a scene's run.
use Rattle.std.specs.Prelude.{◌≡◌, ◌⊎◌, ℕ, ◌<◌, length, slice_get, ⊤, Option, Some, None}
use Rattle.plane_vectors.specs.Vectors.{vector}
use Rattle.fixed_motion.specs.declared.rules.Rules.{Rules}
use Rattle.fixed_motion.specs.declared.disk.Disk.{Disk}
use Rattle.fixed_motion.specs.Motion.{IsSlow, IsValidDisk}
use Rattle.fixed_motion.specs.Scene.{SceneData}
use Rattle.event_stamps.specs.declared.Kind.TheVariants.{Wall, Pair}
use Rattle.event_rules.specs.declared.change.Change.{Change}
use Rattle.event_rules.specs.declared.change.Limit.TheVariants.{Rounds, Speed}
use Rattle.event_rules.specs.declared.outcome.Spot.{Spot}
use Rattle.event_rules.specs.declared.outcome.Outcome.{Outcome}
use Rattle.event_rules.specs.declared.outcome.Outcome.TheVariants.{Done, Limit as Passes}
use Rattle.event_rules.specs.Told.{IsTellable}

-- the new record of disk i, which is valid and begins at the tick
pub record IsRecordAt (rules : Rules) (count tick i : ℕ) (disk : Disk) : Type 0 where
  pub number : i < count
  pub valid : IsValidDisk rules disk
  pub base : disk.base ≡ tick

-- the same, if there is a disk
abbrev pub IsRecordOf : Rules → ℕ → ℕ → ℕ → Option Disk → Type 0
IsRecordOf rules count tick i None = ⊤
IsRecordOf rules count tick i (Some disk) = IsRecordAt rules count tick i disk

-- a change of one or two disks, of which there are this many; the new records are valid and begin at the tick of the
-- event
pub record IsChangeOf (rules : Rules) (count : ℕ) (c : Change) : Type 0 where
  pub tellable : IsTellable c
  pub first : IsRecordAt rules count c.stamp.tick c.stamp.first c.first
  pub second : IsRecordOf rules count c.stamp.tick c.stamp.second c.second

-- an outcome that a run of the scene may have: a spot for each disk, within the speed limit, or an event that fails
abbrev pub IsOutcomeOf : SceneData → Outcome → Type 0
IsOutcomeOf scene (Done spots) = (length spots ≡ length scene.disks)
    × ((i : ℕ) (spot : Spot) → slice_get spots i ≡ Some spot → IsSlow scene.rules (vector spot.vx spot.vy))
IsOutcomeOf scene (Passes (Rounds s)) = (s.kind ≡ Wall) ⊎ (s.kind ≡ Pair)
IsOutcomeOf scene (Passes (Speed s)) = s.kind ≡ Pair
