-- The places of disks between ticks, and that they are inside and apart there too.
use Rattle.std.specs.Prelude.{◌≡◌, ℕ, ◌+◌, ◌<◌, ◌≤◌, ℤ, pos, ◌-ℤ◌, ◌*ℤ◌, ◌≤ℤ◌, List, slice_get, Some}
use Rattle.plane_vectors.specs.declared.Vector.{Vector}
use Rattle.plane_vectors.specs.Vectors.{vector, after}
use Rattle.fixed_motion.specs.declared.rules.Rules.{Rules}
use Rattle.fixed_motion.specs.declared.disk.Disk.{Disk}
use Rattle.fixed_motion.specs.Motion.{Overlaps, contact_distance, place_of, radius_of, velocity_of}
use Rattle.fixed_motion.specs.Scene.{SceneData, IsValidScene}
use Rattle.event_rules.specs.declared.change.Change.{Change}
use Rattle.event_rules.specs.declared.outcome.Outcome.{Outcome}
use Rattle.event_rules.specs.Run.{IsRun, state_at}
use Rattle.event_rules.specs.Laws.{last_tick}

-- The moment part / whole of a tick after a tick. So that places are whole numbers, lengths are given in parts of a
-- unit there; as many parts as `whole` make a unit.
pub record Moment : Type 0 where
  pub tick : ℕ
  pub part : ℕ
  pub whole : ℕ

-- from the tick to the next, both included
pub record IsWithinTick (m : Moment) : Type 0 where
  pub some : 0 < m.whole
  pub most : m.part ≤ m.whole

-- a length in units, told in parts
abbrev pub in_parts : Moment → ℤ → ℤ
in_parts m length = length *ℤ pos m.whole

-- The place of a disk at the moment, in parts. Since the tick it has moved its velocity times part / whole, in units;
-- in parts that is its velocity times the part.
abbrev pub place_at : Moment → Disk → Vector
place_at m a =
    after (vector (in_parts m (place_of a m.tick).x) (in_parts m (place_of a m.tick).y)) (velocity_of a) m.part

-- the whole disk is in the box at the moment
pub record IsInsideAt (rules : Rules) (a : Disk) (m : Moment) : Type 0 where
  pub left : in_parts m (radius_of a) ≤ℤ (place_at m a).x
  pub right : (place_at m a).x ≤ℤ in_parts m (rules.width -ℤ radius_of a)
  pub bottom : in_parts m (radius_of a) ≤ℤ (place_at m a).y
  pub top : (place_at m a).y ≤ℤ in_parts m (rules.height -ℤ radius_of a)

-- at the moment two disks are nearer than the distance at which they touch
abbrev pub OverlapAt : Moment → Disk → Disk → Type 0
OverlapAt m a b = Overlaps (in_parts m (contact_distance a b)) (place_at m a) (place_at m b)

-- at the moment all disks are inside, and no two overlap
pub record AreApartAt (rules : Rules) (disks : List Disk) (m : Moment) : Type 0 where
  pub inside : (i : ℕ) (a : Disk) → slice_get disks i ≡ Some a → IsInsideAt rules a m
  pub apart : (i j : ℕ) (a b : Disk) → i < j → slice_get disks i ≡ Some a → slice_get disks j ≡ Some b → ¬ OverlapAt m a b

-- At each moment of a run, at whole ticks or between them, up to the last tick, all disks are inside and no two overlap. They move
-- from a tick to the next as the tick's events leave them.
abbrev pub KeepsApartBetween : SceneData → List Change → Outcome → Type 0
KeepsApartBetween scene changes outcome = (m : Moment) → IsWithinTick m → m.tick < last_tick scene outcome →
    AreApartAt scene.rules (state_at scene.disks changes (m.tick + 1)) m

-- this is so for each run of a valid scene
abbrev pub NeverOverlapsBetween : Type 0
NeverOverlapsBetween = (scene : SceneData) (changes : List Change) (outcome : Outcome) → IsValidScene scene →
    IsRun scene changes outcome → KeepsApartBetween scene changes outcome

-- no disk jumps: after the events of a tick it is where it was before them, and of the same size
abbrev pub NeverJumps : Type 0
NeverJumps = (scene : SceneData) (changes : List Change) (outcome : Outcome) → IsValidScene scene → IsRun scene changes outcome →
    (tick i : ℕ) (a b : Disk) → slice_get (state_at scene.disks changes tick) i ≡ Some a →
    slice_get (state_at scene.disks changes (tick + 1)) i ≡ Some b → (place_of b tick ≡ place_of a tick) × (b.size ≡ a.size)
