-- The virial theorem for runs, in whole numbers.
use Rattle.std.specs.Prelude.{◌≡◌, ℕ, zero, suc, ◌+◌, ◌*◌, nat_lt, nat_abs, ℤ, pos, ◌+ℤ◌, ◌-ℤ◌, ◌*ℤ◌, ◌≤ℤ◌, List, [], ◌∷◌, take_while, slice_get, Some}
use Rattle.plane_vectors.specs.Vectors.{dot}
use Rattle.fixed_motion.specs.declared.rules.Rules.{Rules}
use Rattle.fixed_motion.specs.declared.disk.Disk.{Disk}
use Rattle.fixed_motion.specs.Motion.{centre_of, half_of}
use Rattle.fixed_motion.specs.Scene.{SceneData, IsValidScene}
use Rattle.event_rules.specs.declared.change.Change.{Change}
use Rattle.event_rules.specs.declared.outcome.Spot.{Spot}
use Rattle.event_rules.specs.declared.outcome.Outcome.{Outcome}
use Rattle.event_rules.specs.declared.outcome.Outcome.TheVariants.{Done}
use Rattle.event_rules.specs.Run.{IsRun, spots_of, state_at}
use Rattle.event_rules.specs.Conservation.{energy, spot_velocity, turned_by}
use Rattle.collision_sums.specs.declared.sums.Sums.{Sums}
use Rattle.collision_sums.specs.Sums.{spot_place}
use Rattle.run_samples.specs.declared.sample.Sample.TheVariants.{Sums as Summed}
use Rattle.sampled_laws.specs.Laws.{sums_at, sums_of_run}

-- ---- the sums of the theorem
-- the sum of r·v over the disks at their spots, with r from the lower left corner of the box
abbrev pub outward : List Spot → ℤ
outward [] = pos 0
outward (spot ∷ spots) = dot (spot_place spot) (spot_velocity spot) +ℤ outward spots

-- The sum of the squared speeds of all disks over the ticks from 1 to this one. From the tick before, they fly as they do at
-- the tick: its state is that after all events before it.
abbrev pub flown : List Disk → List Change → ℕ → ℕ
flown disks changes zero = 0
flown disks changes (suc tick) = flown disks changes tick + energy (state_at disks changes (tick + 1))

-- the sum of r·Δv over the events at sides, with r the place of the disk, and Δv what the side adds to its velocity
abbrev pub turned_there : List Change → ℤ
turned_there [] = pos 0
turned_there (c ∷ cs) = dot (centre_of c.first) (turned_by c) +ℤ turned_there cs

-- the changes before a tick
abbrev pub changes_before : ℕ → List Change → List Change
changes_before tick changes = take_while (λ c. nat_lt c.stamp.tick tick) changes

-- ---- the theorem
-- At each tick of a run, Σ r·v is that at the start, plus the squared speeds flown, plus the virial of all events of two
-- disks before the tick, plus Σ r·Δv of those at sides.
abbrev pub VirialTheorem : Type 0
VirialTheorem = (scene : SceneData) (changes : List Change) (outcome : Outcome) (tick : ℕ) → IsValidScene scene →
    IsRun scene changes outcome →
    outward (spots_of tick (state_at scene.disks changes tick))
    ≡ ((outward (spots_of 0 scene.disks) +ℤ pos (flown scene.disks changes tick))
    +ℤ pos (sums_at (Summed 0) scene changes tick).virial) +ℤ turned_there (changes_before tick changes)

-- so it is at the end
abbrev pub VirialTheoremAtEnd : Type 0
VirialTheoremAtEnd = (scene : SceneData) (changes : List Change) (spots : List Spot) → IsValidScene scene →
    IsRun scene changes (Done spots) →
    outward spots
    ≡ ((outward (spots_of 0 scene.disks) +ℤ pos (flown scene.disks changes scene.rules.end))
    +ℤ pos (sums_of_run 0 scene changes).virial) +ℤ turned_there changes

-- ---- the sides
-- all disks have this size
abbrev pub AreOfSize : ℤ → List Disk → Type 0
AreOfSize size disks = (i : ℕ) (a : Disk) → slice_get disks i ≡ Some a → a.size ≡ size

-- what all sides together took
abbrev pub taken_by_all : Sums → ℕ
taken_by_all s = s.left + s.right + s.bottom + s.top

-- what sides that took this push back, each times its place: disks of this radius touch the right side and the top when
-- their centres are at the width and the height less the radius, the others at the radius
abbrev pub pushed_from_places : Rules → ℤ → Sums → ℤ
pushed_from_places rules radius s =
    (((rules.width -ℤ radius) *ℤ pos s.right) +ℤ ((rules.height -ℤ radius) *ℤ pos s.top)) -ℤ (radius *ℤ pos (s.left + s.bottom))

-- a number is at least another, and at most that with this more
abbrev pub IsWithinAbove : ℤ → ℕ → ℤ → Type 0
IsWithinAbove least more n = (least ≤ℤ n) × (n ≤ℤ (least +ℤ pos more))

-- If all disks have one size, Σ r·Δv at the sides is what they took, each times its place, reversed. An event comes up to a
-- tick before the disk is at the side, so it may be more, by at most the speed limit times what all sides took.
abbrev pub SidesTurnAtTheirPlaces : Type 0
SidesTurnAtTheirPlaces = (scene : SceneData) (changes : List Change) (outcome : Outcome) (size : ℤ) → IsValidScene scene →
    IsRun scene changes outcome → AreOfSize size scene.disks →
    let sums = sums_of_run 0 scene changes in
    IsWithinAbove (pos 0 -ℤ pushed_from_places scene.rules (half_of size) sums)
    (nat_abs scene.rules.speed_limit * taken_by_all sums) (turned_there changes)

-- So what the four sides took tells the squared speeds and the virial, but for Σ r·v at the start and at the end.
abbrev pub SidesTellTheVirial : Type 0
SidesTellTheVirial = (scene : SceneData) (changes : List Change) (spots : List Spot) (size : ℤ) → IsValidScene scene →
    IsRun scene changes (Done spots) → AreOfSize size scene.disks →
    let sums = sums_of_run 0 scene changes in
    IsWithinAbove (pos (flown scene.disks changes scene.rules.end + sums.virial) +ℤ (outward (spots_of 0 scene.disks) -ℤ outward spots))
    (nat_abs scene.rules.speed_limit * taken_by_all sums) (pushed_from_places scene.rules (half_of size) sums)
