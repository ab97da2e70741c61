-- The texts of runs, and what bytes say.
use Rattle.std.specs.Prelude.{◌≡◌, ℕ, List, Option, Some, None, Result}
use Rattle.fixed_motion.specs.Scene.{SceneData}
use Rattle.event_rules.specs.declared.change.Change.{Change}
use Rattle.event_rules.specs.declared.change.Limit.TheVariants.{Rounds, Speed}
use Rattle.event_rules.specs.declared.outcome.Outcome.{Outcome}
use Rattle.event_rules.specs.declared.outcome.Outcome.TheVariants.{Done as DoneOutcome, Limit as Passes}
use Rattle.event_rules.specs.Run.{IsRun}
use Rattle.scene_reader.specs.declared.fault.SceneFault.{SceneFault}
use Rattle.collision_report.specs.declared.format.Format.{Format}
use Rattle.collision_report.specs.Report.{report}
use Rattle.run_samples.specs.declared.sample.Sample.{Sample}
use Rattle.run_samples.specs.Samples.{samples}
use Rattle.program_modes.specs.declared.status.Status.{Status}
use Rattle.program_modes.specs.declared.status.Status.TheVariants.{Done, SpeedLimit, RoundLimit}
use Rattle.scene_reader.specs.Says.{says}
use Rattle.scene_reader.specs.Laws.{IsSceneOrRefusal}

-- what a source's bytes say: a scene, or why there is none
abbrev pub Reading : Type 0
Reading = Result SceneData SceneFault

-- the status of a run that ends so
abbrev pub status_of : Outcome → Status
status_of (DoneOutcome spots) = Done
status_of (Passes (Speed s)) = SpeedLimit
status_of (Passes (Rounds s)) = RoundLimit

-- a text of the scene's run, and the status
abbrev pub IsOfRun : (SceneData → List Change → Outcome → List ℕ) → SceneData → List ℕ → Status → Type 0
IsOfRun text_of scene text status =
    (changes : List Change) × (outcome : Outcome) × IsRun scene changes outcome × (text ≡ text_of scene changes outcome) × (status ≡ status_of outcome)

-- the report of the scene's run
abbrev pub IsReport : Format → SceneData → List ℕ → Status → Type 0
IsReport format scene text status = IsOfRun (report format) scene text status

-- samples of the scene's run
abbrev pub IsSampled : Sample → SceneData → List ℕ → Status → Type 0
IsSampled sample scene text status = IsOfRun (samples sample) scene text status

-- what the bytes that a source has left say; if it doesn't know them, any valid scene or any refusal
abbrev pub IsReadingOf : Option (List ℕ) → Reading → Type 0
IsReadingOf None said = IsSceneOrRefusal said
IsReadingOf (Some bytes) said = said ≡ says bytes
