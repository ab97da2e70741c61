-- What a run is sampled to, as text: the states of all disks, or sums over its collisions.
use Rattle.std.specs.Prelude.{ℕ, List, [], ◌∷◌, ◌++◌, fold, flat_map, count_by, Option}
use Rattle.fixed_motion.specs.declared.rules.Rules.{Rules}
use Rattle.fixed_motion.specs.declared.disk.Disk.{Disk}
use Rattle.fixed_motion.specs.Scene.{SceneData}
use Rattle.event_rules.specs.declared.change.Change.{Change}
use Rattle.event_rules.specs.declared.outcome.Outcome.{Outcome}
use Rattle.event_rules.specs.declared.outcome.Outcome.TheVariants.{Done, Limit as Passes}
use Rattle.event_rules.specs.Run.{effect, spots_of}
use Rattle.event_rules.specs.Laws.{last_tick}
use Rattle.collision_report.specs.declared.format.Format.TheVariants.{Lines, Summary}
use Rattle.collision_report.specs.Blocks.{block, block_ticks}
use Rattle.collision_report.specs.Report.{latest, is_wall, is_pair, end_block}
use Rattle.run_samples.specs.declared.sample.Sample.{Sample}
use Rattle.run_samples.specs.declared.sample.Sample.TheVariants.{States, Sums as Summed}
use Rattle.collision_sums.specs.declared.sums.Sums.{Sums}
use Rattle.collision_sums.specs.Sums.{no_sums, after_change}
use Rattle.collision_sums.specs.SumLines.{sums_block}

-- the sums after a change; where states are asked for, nothing is summed
abbrev pub summed : Sample → Rules → List Disk → Sums → Change → Sums
summed States rules disks sums c = sums
summed (Summed margin) rules disks sums c = after_change rules margin disks sums c

-- the sample of a state at a tick
abbrev pub sample_of : Sample → Rules → List Disk → Sums → ℕ → List ℕ
sample_of States rules disks sums tick = block disks tick
sample_of (Summed margin) rules disks sums tick = sums_block rules margin sums tick (spots_of tick disks)

-- the samples of a state at the ticks above `from` and not above `to`
abbrev pub samples_of : Sample → Rules → Option ℕ → List Disk → Sums → ℕ → ℕ → List ℕ
samples_of sample rules every disks sums from to =
    flat_map (sample_of sample rules disks sums) (block_ticks every rules.end from to)

-- the sums after some changes
abbrev pub sums_after : Sample → Rules → List Disk → Sums → List Change → Sums
sums_after sample rules disks sums [] = sums
sums_after sample rules disks sums (c ∷ cs) = sums_after sample rules (effect disks c) (summed sample rules disks sums c) cs

-- before each change the samples of the state before it that are due up to its tick; those up to `from` are written already
abbrev pub samples_text : Sample → SceneData → List Disk → Sums → ℕ → List Change → List ℕ
samples_text sample scene disks sums from [] = []
samples_text sample scene disks sums from (c ∷ cs) =
    samples_of sample scene.rules scene.every disks sums from c.stamp.tick
    ++ samples_text sample scene (effect disks c) (summed sample scene.rules disks sums c) (latest from c) cs

-- the last block of sums, of a run that is done
abbrev pub last_sums : Rules → ℕ → Sums → Outcome → List ℕ
last_sums rules margin sums (Done spots) = sums_block rules margin sums rules.end spots
last_sums rules margin sums (Passes limit) = []

-- the end: of states that of the report with all lines; of sums that without the disks, and the last sums
abbrev pub sampled_end : Sample → SceneData → Sums → Outcome → ℕ → ℕ → List ℕ
sampled_end States scene sums outcome walls pairs = end_block Lines scene outcome walls pairs
sampled_end (Summed margin) scene sums outcome walls pairs =
    end_block Summary scene outcome walls pairs ++ last_sums scene.rules margin sums outcome

-- the samples of a run with these changes and this outcome
abbrev pub samples : Sample → SceneData → List Change → Outcome → List ℕ
samples sample scene changes outcome =
    let sums = sums_after sample scene.rules scene.disks no_sums changes in
    samples_text sample scene scene.disks no_sums 0 changes
    ++ (samples_of sample scene.rules scene.every (fold effect scene.disks changes) sums (fold latest 0 changes) (last_tick scene outcome)
    ++ sampled_end sample scene sums outcome (count_by is_wall changes) (count_by is_pair changes))
