-- What the sums of a run are.
use Rattle.std.specs.Prelude.{◌≡◌, ℕ, ◌<◌, ◌≤◌, ◌^◌, nat_lt, pos, ◌+ℤ◌, List, ◌∷◌, ◌++◌, length, fold, take_while, flat_map, count_by, slice_get, Some}
use Rattle.plane_vectors.specs.Vectors.{difference, dot}
use Rattle.fixed_motion.specs.declared.rules.Rules.{Rules}
use Rattle.fixed_motion.specs.declared.disk.Disk.{Disk}
use Rattle.fixed_motion.specs.Motion.{centre_of, place_of}
use Rattle.fixed_motion.specs.Scene.{SceneData, IsValidScene}
use Rattle.event_rules.specs.declared.change.Change.{Change}
use Rattle.event_rules.specs.declared.outcome.Spot.{Spot}
use Rattle.event_rules.specs.declared.outcome.Outcome.{Outcome}
use Rattle.event_rules.specs.declared.outcome.Outcome.TheVariants.{Done}
use Rattle.event_rules.specs.Effect.{impulse_at}
use Rattle.event_rules.specs.Run.{Runs, IsRun, effect, spots_of, state_at}
use Rattle.event_rules.specs.Laws.{last_tick}
use Rattle.event_rules.specs.Conservation.{momentum, total_of, energy, energy_of, spot_velocity, velocity_at}
use Rattle.collision_report.specs.Blocks.{block_ticks}
use Rattle.collision_report.specs.Report.{is_wall, is_pair}
use Rattle.collision_sums.specs.declared.sums.Sums.{Sums}
use Rattle.collision_sums.specs.Sums.{no_sums, disks_in, squares_in, virial_of}
use Rattle.run_samples.specs.declared.sample.Sample.{Sample}
use Rattle.run_samples.specs.declared.sample.Sample.TheVariants.{Sums as Summed}
use Rattle.run_samples.specs.Samples.{sums_after, sample_of, sampled_end, samples}

-- ---- the ticks
-- the sums at a tick of a run with these changes: over those before the tick
abbrev pub sums_at : Sample → SceneData → List Change → ℕ → Sums
sums_at sample scene changes tick =
    sums_after sample scene.rules scene.disks no_sums (take_while (λ c. nat_lt c.stamp.tick tick) changes)

-- the sample at a tick, of the state and the sums then
abbrev pub sample_at : Sample → SceneData → List Change → ℕ → List ℕ
sample_at sample scene changes tick =
    sample_of sample scene.rules (state_at scene.disks changes tick) (sums_at sample scene changes tick) tick

-- the samples of a run are those at each multiple of `every` that is below the end and not above the last tick, and the end
abbrev pub SamplesAreOfTicks : Type 0
SamplesAreOfTicks = (sample : Sample) (scene : SceneData) (changes : List Change) (outcome : Outcome) → IsValidScene scene →
    IsRun scene changes outcome →
    let all = sums_after sample scene.rules scene.disks no_sums changes in
    samples sample scene changes outcome
    ≡ flat_map (sample_at sample scene changes) (block_ticks scene.every scene.rules.end 0 (last_tick scene outcome))
    ++ sampled_end sample scene all outcome (count_by is_wall changes) (count_by is_pair changes)

-- the sums over all events of a run in the part that is at least the margin from the sides
abbrev pub sums_of_run : ℕ → SceneData → List Change → Sums
sums_of_run margin scene changes = sums_after (Summed margin) scene.rules scene.disks no_sums changes

-- ---- the disks
-- in the whole box, at each tick of a run, the sums over the disks are over all of them
abbrev pub SquaresAreEnergy : Type 0
SquaresAreEnergy = (scene : SceneData) (changes : List Change) (outcome : Outcome) (tick : ℕ) → IsValidScene scene →
    IsRun scene changes outcome → tick ≤ last_tick scene outcome →
    let state = state_at scene.disks changes tick in
    (disks_in scene.rules 0 (spots_of tick state) ≡ length scene.disks) × (squares_in scene.rules 0 (spots_of tick state) ≡ energy state)

-- and so they are at the end, where the sum of the squared speeds is the second number of the line `energy`
abbrev pub LastSquaresAreEnergy : Type 0
LastSquaresAreEnergy = (scene : SceneData) (changes : List Change) (spots : List Spot) → IsValidScene scene → IsRun scene changes (Done spots) →
    (disks_in scene.rules 0 spots ≡ length scene.disks) × (squares_in scene.rules 0 spots ≡ energy_of spot_velocity spots)

-- ---- the sides
-- over the whole box, the momentum at the end is that at the start, plus what the left side and the bottom took, less what
-- the right side and the top took
abbrev pub SidesTakeMomentum : Type 0
SidesTakeMomentum = (scene : SceneData) (changes : List Change) (spots : List Spot) → IsValidScene scene → IsRun scene changes (Done spots) →
    let sums = sums_of_run 0 scene changes in
    ((total_of spot_velocity spots).x +ℤ pos sums.right ≡ (momentum scene.disks).x +ℤ pos sums.left)
    × ((total_of spot_velocity spots).y +ℤ pos sums.top ≡ (momentum scene.disks).y +ℤ pos sums.bottom)

-- ---- the pairs
-- What an event of two disks adds to the virial, for the state before it and the second's record after it: r·J, with r and
-- J of the event's tick, which is above 0. The places of the new records are those of the old ones at the tick.
pub record IsPush (disks : List Disk) (c : Change) (later : Disk) : Type 0 where
  pub first : Disk
  pub second : Disk
  pub first_at : slice_get disks c.stamp.first ≡ Some first
  pub second_at : slice_get disks c.stamp.second ≡ Some second
  pub first_place : centre_of c.first ≡ place_of first c.stamp.tick
  pub second_place : centre_of later ≡ place_of second c.stamp.tick
  pub virial : pos (virial_of (velocity_at disks c.stamp.first) c.first later)
      ≡ dot (difference (place_of first c.stamp.tick) (place_of second c.stamp.tick)) (impulse_at c.stamp.tick first second)
  pub positive : 0 < virial_of (velocity_at disks c.stamp.first) c.first later

-- each event of two disks of a run, from any state, adds such a push
abbrev pub VirialsArePushes : Type 0
VirialsArePushes = (rules : Rules) (disks : List Disk) (before after : List Change) (c : Change) (later : Disk) (outcome : Outcome) →
    Runs rules disks (before ++ (c ∷ after)) outcome → c.second ≡ Some later → IsPush (fold effect disks before) c later

-- ---- sizes
-- no sum of a run comes to the greatest number of 128 bits, at which it would stop
abbrev pub SumsNeverStop : Type 0
SumsNeverStop = (margin : ℕ) (scene : SceneData) (changes : List Change) (outcome : Outcome) → IsValidScene scene → IsRun scene changes outcome →
    let sums = sums_of_run margin scene changes in
    (sums.pairs < 2 ^ 72) × (sums.virial < 2 ^ 124) × (sums.walls < 2 ^ 73)
    × (sums.left < 2 ^ 94) × (sums.right < 2 ^ 94) × (sums.bottom < 2 ^ 94) × (sums.top < 2 ^ 94)
