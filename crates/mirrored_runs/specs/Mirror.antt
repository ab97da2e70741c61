-- Scenes and runs mirrored, left to right or bottom to top: a place at some distance from one side gets the same
-- distance from the opposite side, and a velocity towards one side goes towards the opposite one.
use Rattle.std.specs.Prelude.{ℕ, ◌==◌, if◌then◌else◌, ◌-ℤ◌, neg_ℤ, List, map, Option, Some, None}
use Rattle.plane_vectors.specs.declared.Vector.{Vector}
use Rattle.plane_vectors.specs.Vectors.{vector}
use Rattle.fixed_motion.specs.declared.rules.Rules.{Rules}
use Rattle.fixed_motion.specs.declared.disk.Disk.{Disk}
use Rattle.fixed_motion.specs.Motion.{centre_of, velocity_of}
use Rattle.fixed_motion.specs.Scene.{SceneData, IsValidScene}
use Rattle.event_stamps.specs.declared.Stamp.{Stamp}
use Rattle.event_stamps.specs.declared.Kind.{Kind}
use Rattle.event_stamps.specs.declared.Kind.TheVariants.{Cross, Wall, Pair}
use Rattle.event_rules.specs.declared.change.Change.{Change}
use Rattle.event_rules.specs.declared.change.Limit.{Limit}
use Rattle.event_rules.specs.declared.change.Limit.TheVariants.{Rounds, Speed}
use Rattle.event_rules.specs.declared.outcome.Spot.{Spot}
use Rattle.event_rules.specs.declared.outcome.Outcome.{Outcome}
use Rattle.event_rules.specs.declared.outcome.Outcome.TheVariants.{Done, Limit as Passes}
use Rattle.event_rules.specs.Conservation.{spot_velocity}
use Rattle.event_rules.specs.Run.{IsRun}

-- which sides change places
pub data Axis : Type 0 where
  LeftRight : Axis
  BottomTop : Axis

-- the place that is as far from the opposite side
abbrev pub mirrored_place : Axis → Rules → Vector → Vector
mirrored_place LeftRight rules p = vector (rules.width -ℤ p.x) p.y
mirrored_place BottomTop rules p = vector p.x (rules.height -ℤ p.y)

-- one component reversed
abbrev pub mirrored_vector : Axis → Vector → Vector
mirrored_vector LeftRight v = vector (neg_ℤ v.x) v.y
mirrored_vector BottomTop v = vector v.x (neg_ℤ v.y)

-- the record of a disk at the mirrored place, with the mirrored velocity
abbrev pub mirrored : Axis → Rules → Disk → Disk
mirrored axis rules a = record {
  x = (mirrored_place axis rules (centre_of a)).x;
  y = (mirrored_place axis rules (centre_of a)).y;
  vx = (mirrored_vector axis (velocity_of a)).x;
  vy = (mirrored_vector axis (velocity_of a)).y;
  size = a.size;
  base = a.base;
  mark = a.mark;
}

-- the same rules, and each disk mirrored
abbrev pub mirrored_scene : Axis → SceneData → SceneData
mirrored_scene axis scene =
    record { rules = scene.rules; disks = map (mirrored axis scene.rules) scene.disks; every = scene.every }

-- the right side for the left one, or the top for the bottom, and the other way round
abbrev pub mirrored_side : Axis → ℕ → ℕ
mirrored_side LeftRight side = if side == 0 then 1 else if side == 1 then 0 else side
mirrored_side BottomTop side = if side == 2 then 3 else if side == 3 then 2 else side

-- the last number of a stamp, which is a side if a disk hits one
abbrev pub mirrored_second : Axis → Kind → ℕ → ℕ
mirrored_second axis Cross second = second
mirrored_second axis Wall second = mirrored_side axis second
mirrored_second axis Pair second = second

-- the same tick, round, kind and first disk
abbrev pub mirrored_stamp : Axis → Stamp → Stamp
mirrored_stamp axis s = record {
  tick = s.tick;
  round = s.round;
  kind = s.kind;
  first = s.first;
  second = mirrored_second axis s.kind s.second;
}

-- the disk, if there is one
abbrev pub mirrored_if : Axis → Rules → Option Disk → Option Disk
mirrored_if axis rules None = None
mirrored_if axis rules (Some a) = Some (mirrored axis rules a)

-- what the mirrored event changes
abbrev pub mirrored_change : Axis → Rules → Change → Change
mirrored_change axis rules c = record {
  stamp = mirrored_stamp axis c.stamp;
  first = mirrored axis rules c.first;
  second = mirrored_if axis rules c.second;
}

-- the same limit, failed by the mirrored event
abbrev pub mirrored_limit : Axis → Limit → Limit
mirrored_limit axis (Rounds s) = Rounds (mirrored_stamp axis s)
mirrored_limit axis (Speed s) = Speed (mirrored_stamp axis s)

-- the mirrored place and velocity of a disk at the end
abbrev pub mirrored_spot : Axis → Rules → Spot → Spot
mirrored_spot axis rules spot = record {
  x = (mirrored_place axis rules (vector spot.x spot.y)).x;
  y = (mirrored_place axis rules (vector spot.x spot.y)).y;
  vx = (mirrored_vector axis (spot_velocity spot)).x;
  vy = (mirrored_vector axis (spot_velocity spot)).y;
}

-- the mirrored end of a run
abbrev pub mirrored_outcome : Axis → Rules → Outcome → Outcome
mirrored_outcome axis rules (Done spots) = Done (map (mirrored_spot axis rules) spots)
mirrored_outcome axis rules (Passes limit) = Passes (mirrored_limit axis limit)

-- a mirrored scene is valid if the scene is
abbrev pub MirrorsAreValid : Type 0
MirrorsAreValid = (axis : Axis) (scene : SceneData) → IsValidScene scene → IsValidScene (mirrored_scene axis scene)

-- the run of a mirrored scene is the scene's run, mirrored
abbrev pub RunsMirror : Type 0
RunsMirror = (axis : Axis) (scene : SceneData) (changes : List Change) (outcome : Outcome) → IsRun scene changes outcome →
    IsRun (mirrored_scene axis scene) (map (mirrored_change axis scene.rules) changes) (mirrored_outcome axis scene.rules outcome)
