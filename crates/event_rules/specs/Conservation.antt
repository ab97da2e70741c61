-- What runs conserve: the momentum except for what the sides of the box turn, and the energy except for the rounding of
-- impulses.
use Rattle.std.specs.Prelude.{◌≡◌, ℕ, ◌+◌, ◌*◌, ◌≤◌, nat_lt, if◌then◌else◌, pos, nat_abs, ◌*ℤ◌, List, [], ◌∷◌, fold, sum_by, count_by, slice_get, is_some, Option, Some, None}
use Rattle.plane_vectors.specs.declared.Vector.{Vector}
use Rattle.plane_vectors.specs.Vectors.{vector, sum, difference}
use Rattle.fixed_motion.specs.declared.rules.Rules.{Rules}
use Rattle.fixed_motion.specs.declared.disk.Disk.{Disk}
use Rattle.fixed_motion.specs.Motion.{velocity_of}
use Rattle.fixed_motion.specs.Scene.{SceneData, IsValidScene}
use Rattle.event_stamps.specs.declared.Stamp.{Stamp}
use Rattle.event_rules.specs.declared.change.Change.{Change}
use Rattle.event_rules.specs.declared.outcome.Spot.{Spot}
use Rattle.event_rules.specs.declared.outcome.Outcome.TheVariants.{Done}
use Rattle.event_rules.specs.Run.{Steps, IsRun, IsValidState, effect}

-- ---- momentum and energy, of disks of mass one
-- the sum of the vectors of some items
abbrev pub total_of : {A : Type 0} → (A → Vector) → List A → Vector
total_of vector_of items = fold (λ total item. sum total (vector_of item)) (vector (pos 0) (pos 0)) items

-- the squared length of a vector
abbrev pub square_of : Vector → ℕ
square_of v = nat_abs v.x * nat_abs v.x + nat_abs v.y * nat_abs v.y

-- the sum of the squared speeds of some items, which is twice the energy
abbrev pub energy_of : {A : Type 0} → (A → Vector) → List A → ℕ
energy_of velocity items = sum_by (λ item. square_of (velocity item)) items

-- the momentum of a state
abbrev pub momentum : List Disk → Vector
momentum disks = total_of velocity_of disks

-- the sum of the squared speeds of a state, which is twice the energy
abbrev pub energy : List Disk → ℕ
energy disks = energy_of velocity_of disks

-- the velocity at a spot of a final state
abbrev pub spot_velocity : Spot → Vector
spot_velocity spot = vector spot.vx spot.vy

-- ---- how events change momentum and energy
-- A side turns one component of a velocity from -w to w, and so adds 2 w to the momentum. The velocity here is the one
-- after the event, so that a change alone tells what it turned.
abbrev pub turned_at : ℕ → Vector → Vector
turned_at side v = if nat_lt side 2 then vector (pos 2 *ℤ v.x) (pos 0) else vector (pos 0) (pos 2 *ℤ v.y)

-- what an event adds to the momentum; two disks that hit each other add nothing
abbrev pub turned_by : Change → Vector
turned_by c = alone c.second
  where
    alone : Option Disk → Vector
    alone None = turned_at c.stamp.second (velocity_of c.first)
    alone (Some d) = vector (pos 0) (pos 0)

-- what all the events at sides add
abbrev pub turned_by_sides : List Change → Vector
turned_by_sides changes = total_of turned_by changes

-- the velocity of a disk of a state; one that isn't there stands still
abbrev pub velocity_if : Option Disk → Vector
velocity_if None = vector (pos 0) (pos 0)
velocity_if (Some a) = velocity_of a

-- the velocity of a disk of a state, by its number
abbrev pub velocity_at : List Disk → ℕ → Vector
velocity_at disks i = velocity_if (slice_get disks i)

-- the velocity of the event's first disk relative to its second, in the state before
abbrev pub relative_velocity : List Disk → Stamp → Vector
relative_velocity disks s = difference (velocity_at disks s.first) (velocity_at disks s.second)

-- how much the rounding of an impulse may change the energy: 3 (|u_x| + |u_y|) + 4, where u is the relative velocity
-- before; a side changes nothing
abbrev pub rounding_of : List Disk → Change → ℕ
rounding_of disks c = alone c.second
  where
    alone : Option Disk → ℕ
    alone None = 0
    alone (Some d) = let u = relative_velocity disks c.stamp in 3 * (nat_abs u.x + nat_abs u.y) + 4

-- how much all the roundings of a run from this state may change it
abbrev pub roundings : List Disk → List Change → ℕ
roundings disks [] = 0
roundings disks (c ∷ cs) = rounding_of disks c + roundings (effect disks c) cs

-- the number of times that two disks hit each other
abbrev pub pairs : List Change → ℕ
pairs changes = count_by (λ c. is_some c.second) changes

-- how much this many roundings may change the energy of disks within the speed limit
abbrev pub most_rounded : Rules → ℕ → ℕ
most_rounded rules count = count * (12 * nat_abs rules.speed_limit + 4)

-- two numbers differ by at most this
abbrev pub DifferByAtMost : ℕ → ℕ → ℕ → Type 0
DifferByAtMost most m n = (m ≤ n + most) × (n ≤ m + most)

-- ---- laws
-- after any beginning of a run, from any state, the momentum is the one before plus what the sides turned
abbrev pub MomentumTurnsAtSides : Type 0
MomentumTurnsAtSides = (rules : Rules) (disks later : List Disk) (changes : List Change) → Steps rules disks changes later →
    momentum later ≡ sum (momentum disks) (turned_by_sides changes)

-- and the energy is the one before, except for the roundings
abbrev pub EnergyStaysButForRoundings : Type 0
EnergyStaysButForRoundings = (rules : Rules) (disks later : List Disk) (changes : List Change) → Steps rules disks changes later →
    DifferByAtMost (roundings disks changes) (energy later) (energy disks)

-- from a state of valid records, the energy is the one before, except for a bounded amount for each pair
abbrev pub EnergyNearlyStays : Type 0
EnergyNearlyStays = (rules : Rules) (disks later : List Disk) (changes : List Change) → IsValidState rules disks → Steps rules disks changes later →
    DifferByAtMost (most_rounded rules (pairs changes)) (energy later) (energy disks)

-- the same for the spots with which a scene's run ends
pub record HasConserved (scene : SceneData) (changes : List Change) (spots : List Spot) : Type 0 where
  pub momentum_at_end : total_of spot_velocity spots ≡ sum (momentum scene.disks) (turned_by_sides changes)
  pub energy_at_end : DifferByAtMost (most_rounded scene.rules (pairs changes)) (energy_of spot_velocity spots) (energy scene.disks)

-- this is so for each run of a valid scene that comes to its end
abbrev pub RunsConserve : Type 0
RunsConserve = (scene : SceneData) (changes : List Change) (spots : List Spot) → IsValidScene scene → IsRun scene changes (Done spots) →
    HasConserved scene changes spots
