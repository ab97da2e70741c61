-- If something was told of the rules and disks of a scene, it was told of the scene.
use Rattle.std.proofs.Common.{ℕ, List, sym, subst, Option, take}
use Rattle.fixed_motion.specs.Scene.{SceneData, IsValidScene}
use Rattle.event_rules.specs.declared.change.Change.{Change}
use Rattle.event_rules.specs.declared.outcome.Outcome.{Outcome}
use Rattle.event_rules.specs.declared.outcome.RunFault.{RunFault}
use Rattle.event_rules.specs.declared.outcome.RunFault.TheVariants.{Listener, NoMemory}
use Rattle.event_rules.specs.Told.{Told, PrefixTold}
use Rattle.event_rules.specs.Tellings.{RunTold, RunCutShort, RunDone, StepsCutShort, bare_scene}
use Rattle.event_rules.proofs.Telling.{whole_longer, prefix_longer}
use Rattle.event_rules.proofs.OneRun.{steps_begin}
use Rattle.event_rules.proofs.Exists.{each_scene_runs}
use Rattle.event_rules.proofs.Apart.{never_overlaps}
use Rattle.event_rules.proofs.Between.{never_overlaps_between}

-- what was told on the way from a scene is a prefix of its run
pub cut_short : {M : Type 0} (after : M → Change → M) (torn : M → Change → M → Type 0)
    (scene : SceneData) (fault : RunFault) (old new : Option M) → IsValidScene scene →
    StepsCutShort after torn (bare_scene scene.rules scene.disks) fault old new →
    RunCutShort after torn scene fault old new
cut_short {M} after torn scene Listener old new valid h =
    let run = each_scene_runs scene valid in
    let found = steps_begin scene.rules scene.disks h.1 h.0 run.0 run.1 h.2 run.2 in (
      run.0,
      run.1,
      run.2,
      subst (λ (v : List Change). PrefixTold after torn old v new) (sym found.1)
          (prefix_longer after torn old new h.0 found.0 h.3),
    )
cut_short {M} after torn scene NoMemory old new valid h =
    let run = each_scene_runs scene valid in
    let found = steps_begin scene.rules scene.disks h.1 h.0 run.0 run.1 h.2 run.2 in (
      run.0,
      run.1,
      run.2,
      subst (λ (v : List Change). (n : ℕ) × Told after old (take n v) new) (sym found.1)
          (whole_longer after old new h.0 found.0 h.3.0 h.3.1),
    )

-- a run to the end was told as a run
pub run_told : {M : Type 0} (after : M → Change → M) (scene : SceneData) (outcome : Outcome)
    (old new : Option M) → IsValidScene scene →
    RunDone after (bare_scene scene.rules scene.disks) outcome old new →
    RunTold after scene outcome old new
run_told after scene outcome old new valid h = (
  h.0,
  h.1,
  h.2,
  never_overlaps scene h.0 outcome valid h.1,
  never_overlaps_between scene h.0 outcome valid h.1,
)
