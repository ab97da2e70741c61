-- What was told of a run that is cut at a tick.
use Rattle.std.proofs.Common.{◌≡◌, ℕ, ◌≤◌, List, ap, ◌∙◌, subst, Option}
use Rattle.fixed_motion.specs.Scene.{SceneData, IsValidScene}
use Rattle.event_rules.specs.declared.change.Change.{Change}
use Rattle.event_rules.specs.declared.change.Limit.{Limit}
use Rattle.event_rules.specs.declared.outcome.Spot.{Spot}
use Rattle.event_rules.specs.declared.outcome.Outcome.{Outcome}
use Rattle.event_rules.specs.declared.outcome.Outcome.TheVariants.{Done, Limit as Passes}
use Rattle.event_rules.specs.declared.outcome.RunFault.TheVariants.{NoMemory}
use Rattle.event_rules.specs.Run.{IsRun}
use Rattle.event_rules.specs.Told.{Told}
use Rattle.event_rules.specs.Tellings.{RunTold, RunCutShort}
use Rattle.event_rules.proofs.Exists.{each_scene_runs}
use Rattle.event_rules.proofs.OneRun.{one_run}
use Rattle.event_rules.proofs.Telling.{all_told, told_none}
use Rattle.resume.specs.Parts.{before_scene, rest_scene, PassesBefore}
use Rattle.resume.proofs.InParts.{before_valid, limits_stay, limits_come_first, runs_have_parts}
use Rattle.program_modes.specs.declared.cut.Cut.TheVariants.{Rest, Limit as CutLimit}
use Rattle.program_modes.specs.Cut.{CutTold}

pub none_told : {M : Type 0} (after : M → Change → M) (torn : M → Change → M → Type 0) (scene : SceneData)
    (at : ℕ) (old : Option M) → IsValidScene scene → at ≤ scene.rules.end →
    RunCutShort after torn (before_scene scene at) NoMemory old old
none_told after torn scene at old h le =
    let run = each_scene_runs (before_scene scene at) (before_valid scene at le h) in
    (run.0, run.1, run.2, (0, told_none after old))

pub all_was_told : {M : Type 0} (after : M → Change → M) (torn : M → Change → M → Type 0) (scene : SceneData)
    (at : ℕ) (outcome : Outcome) (old new : Option M) → RunTold after (before_scene scene at) outcome old new →
    RunCutShort after torn (before_scene scene at) NoMemory old new
all_was_told after torn scene at outcome old new h =
    (h.0, outcome, h.1, all_told after old new h.0 h.2)

-- a run that is done at the tick passes no limit before it
none_passed : (scene : SceneData) (at : ℕ) (changes first : List Change) (outcome : Outcome) (spots : List Spot) →
    IsValidScene scene → at ≤ scene.rules.end → IsRun scene changes outcome →
    IsRun (before_scene scene at) first (Done spots) → ¬ PassesBefore at outcome
none_passed scene at changes first outcome spots h le run before passes =
    let there = limits_come_first scene at changes outcome h le run passes in
    let same =
    one_run (before_scene scene at).rules scene.disks changes first outcome (Done spots) there before in
    subst (PassesBefore at) same.1 passes

same_spots : (a b : List Spot) → ◌≡◌ {A = Outcome} (Done a) (Done b) → a ≡ b
same_spots a b e = cc

pub rest_told : {M : Type 0} (after : M → Change → M) (scene rest : SceneData) (at : ℕ) (spots : List Spot)
    (old new : Option M) → IsValidScene scene → at ≤ scene.rules.end → rest ≡ rest_scene scene at spots →
    RunTold after (before_scene scene at) (Done spots) old new → CutTold after scene at (Rest rest) old new
rest_told after scene rest at spots old new h le made told =
    let run = each_scene_runs scene h in
    let not = none_passed scene at run.0 told.0 run.1 spots h le run.2 told.1 in
    let parts = runs_have_parts scene at run.0 run.1 h le run.2 not in
    let same =
    one_run (before_scene scene at).rules scene.disks told.0 parts.first (Done spots) (Done parts.spots) told.1
    parts.before in (
      run.0,
      run.1,
      run.2,
      not,
      (
        parts,
        made ∙ ap (rest_scene scene at) (same_spots spots parts.spots same.1),
        subst (λ (cs : List Change). Told after old cs new) same.0 told.2,
      ),
    )

pub limit_told : {M : Type 0} (after : M → Change → M) (scene : SceneData) (at : ℕ) (limit : Limit)
    (old new : Option M) → IsValidScene scene → at ≤ scene.rules.end →
    RunTold after (before_scene scene at) (Passes limit) old new → CutTold after scene at (CutLimit limit) old new
limit_told after scene at limit old new h le told =
    let stays = limits_stay scene at told.0 limit h le told.1 in
    (told.0, stays.0, stays.1, told.2)

-- what was told with an outcome that is equal to another
pub same_end : {M : Type 0} (after : M → Change → M) (a : SceneData) (o p : Outcome) (old new : Option M) →
    o ≡ p → RunTold after a o old new → RunTold after a p old new
same_end after a o p old new e told = subst (λ (v : Outcome). RunTold after a v old new) e told
