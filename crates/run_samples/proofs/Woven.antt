-- The report with all lines is the states with the lines of the changes between.
use Rattle.std.proofs.Common.{◌≡◌, ℕ, List, [], ◌∷◌, ◌++◌, length, map, append_assoc, ap, refl, ◌∙◌, count_by, arith}
use Rattle.std.specs.Prelude.{flat_map}
use Rattle.fixed_motion.specs.declared.disk.Disk.{Disk}
use Rattle.fixed_motion.specs.Scene.{SceneData}
use Rattle.event_rules.specs.declared.change.Change.{Change}
use Rattle.event_rules.specs.Run.{effect}
use Rattle.collision_report.specs.declared.format.Format.TheVariants.{Lines}
use Rattle.collision_report.specs.Lines.{event_line}
use Rattle.collision_report.specs.Blocks.{blocks}
use Rattle.collision_report.specs.Report.{is_wall, is_pair, latest, changes_text, last_blocks, end_block}
use Rattle.collision_sums.specs.declared.sums.Sums.{Sums}
use Rattle.collision_sums.specs.Sums.{no_sums}
use Rattle.run_samples.specs.declared.sample.Sample.TheVariants.{States}
use Rattle.run_samples.specs.Samples.{samples_text}
use Rattle.run_samples.specs.Laws.{with_lines, StatesAreOfLines}

-- the blocks before each change
abbrev texts_of : SceneData → List Disk → ℕ → List Change → List (List ℕ)
texts_of scene disks from [] = []
texts_of scene disks from (c ∷ cs) =
    blocks scene.every scene.rules.end disks from c.stamp.tick ∷ texts_of scene (effect disks c) (latest from c) cs

as_many : (scene : SceneData) (disks : List Disk) (from : ℕ) (cs : List Change) → length (texts_of scene disks from cs) ≡ length cs
as_many scene disks from [] = refl
as_many scene disks from (c ∷ cs) = let e = as_many scene (effect disks c) (latest from c) cs in omega (arith, e)

lines_are : (scene : SceneData) (disks : List Disk) (from : ℕ) (cs : List Change) →
    changes_text scene disks from cs ≡ with_lines (texts_of scene disks from cs) (map event_line cs)
lines_are scene disks from [] = refl
lines_are scene disks from (c ∷ cs) =
    ap (λ (v : List ℕ). blocks scene.every scene.rules.end disks from c.stamp.tick ++ (event_line c ++ v)) (lines_are scene (effect disks c) (latest from c) cs)

states_are : (scene : SceneData) (disks : List Disk) (sums : Sums) (from : ℕ) (cs : List Change) →
    samples_text States scene disks sums from cs ≡ flat_map (λ text. text) (texts_of scene disks from cs)
states_are scene disks sums from [] = refl
states_are scene disks sums from (c ∷ cs) =
    ap (λ (v : List ℕ). blocks scene.every scene.rules.end disks from c.stamp.tick ++ v) (states_are scene (effect disks c) sums (latest from c) cs)

pub woven : StatesAreOfLines
woven scene changes outcome =
    let end = end_block Lines scene outcome (count_by is_wall changes) (count_by is_pair changes) in
    let last = last_blocks scene changes outcome in (
      texts_of scene scene.disks 0 changes,
      last ++ end,
      as_many scene scene.disks 0 changes,
      append_assoc (changes_text scene scene.disks 0 changes) last end ∙ ap (λ (v : List ℕ). v ++ (last ++ end)) (lines_are scene scene.disks 0 changes),
      ap (λ (v : List ℕ). v ++ (last ++ end)) (states_are scene scene.disks no_sums 0 changes),
    )
