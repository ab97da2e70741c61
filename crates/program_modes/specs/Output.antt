-- The output of the program: a text and a status.
use Rattle.std.specs.Prelude.{◌≡◌, ◌⊎◌, ℕ, ◌<◌, ◌≤◌, List, length, codes, Option, Some, None, Ok, Err}
use Rattle.fixed_motion.specs.Scene.{SceneData}
use Rattle.event_rules.specs.declared.change.Change.{Change}
use Rattle.event_rules.specs.declared.outcome.Outcome.{Outcome}
use Rattle.event_rules.specs.declared.outcome.Outcome.TheVariants.{Done as DoneOutcome, Limit as Passes}
use Rattle.event_rules.specs.Run.{IsRun}
use Rattle.resume.specs.Parts.{before_scene, rest_scene}
use Rattle.scene_maker.specs.Canonical.{canonical_text}
use Rattle.scene_maker.specs.Made.{IsMade}
use Rattle.command_words.specs.declared.settings.Mode.{Mode}
use Rattle.command_words.specs.declared.settings.Mode.TheVariants.{Run, Plain, Check, Load, Cut, Audit}
use Rattle.command_words.specs.declared.settings.OutputFormat.{OutputFormat}
use Rattle.command_words.specs.declared.settings.OutputFormat.TheVariants as asked
use Rattle.command_words.specs.declared.settings.Settings.{Settings}
use Rattle.collision_report.specs.declared.format.Format.{Format}
use Rattle.collision_report.specs.declared.format.Format.TheVariants.{Lines, Summary}
use Rattle.collision_report.specs.Lines.{number_line}
use Rattle.collision_report.specs.Report.{report}
use Rattle.run_samples.specs.declared.sample.Sample.TheVariants as sampled
use Rattle.program_modes.specs.declared.status.Status.{Status}
use Rattle.program_modes.specs.declared.status.Status.TheVariants.{Done, BadWords, SceneRefused}
use Rattle.program_modes.specs.Refusals.{bad_words_line, late_cut_line, refusal_line}
use Rattle.program_modes.specs.Reports.{Reading, status_of, IsReport, IsSampled}
use Rattle.program_modes.specs.Verdicts.{OfAudit}

-- a scene itself, or a line with this name and the number of its disks
abbrev pub scene_text_of : List ℕ → Format → SceneData → List ℕ
scene_text_of name Lines scene = canonical_text scene
scene_text_of name Summary scene = number_line name (length scene.disks)

-- the text of a scene, with the status Done
abbrev pub IsSceneText : List ℕ → Format → SceneData → List ℕ → Status → Type 0
IsSceneText name format scene text status = (text ≡ scene_text_of name format scene) × (status ≡ Done)

-- the rest of the scene after the tick, if the run up to it is done; or the report of a run that passes a limit
abbrev pub text_left : Format → ℕ → SceneData → List Change → Outcome → List ℕ
text_left format at scene changes (DoneOutcome spots) = scene_text_of (codes "rest") format (rest_scene scene at spots)
text_left format at scene changes (Passes limit) = report Summary (before_scene scene at) changes (Passes limit)

-- given the run up to the tick
abbrev pub IsTextLeft : Format → ℕ → SceneData → List ℕ → Status → Type 0
IsTextLeft format at scene text status =
    (changes : List Change) × (outcome : Outcome) × IsRun (before_scene scene at) changes outcome
    × (text ≡ text_left format at scene changes outcome) × (status ≡ status_of outcome)

-- a scene that is cut at the tick; it is refused if the tick is after its last one
abbrev pub IsCutText : Format → ℕ → SceneData → List ℕ → Status → Type 0
IsCutText format at scene text status =
    ((scene.rules.end < at) × ((text ≡ late_cut_line) × (status ≡ SceneRefused)))
    ⊎ ((at ≤ scene.rules.end) × IsTextLeft format at scene text status)

-- what is shown of a scene that was read, or the line of its refusal
abbrev pub OfReading : (SceneData → List ℕ → Status → Type 0) → Reading → List ℕ → Status → Type 0
OfReading shown (Ok scene) text status = shown scene text status
OfReading shown (Err fault) text status = (text ≡ refusal_line fault) × (status ≡ SceneRefused)

-- the form of a scene that the words ask for: if they ask for samples of a run, that of the report that has the same end
abbrev pub format_of : OutputFormat → Format
format_of asked.Lines = Lines
format_of asked.Summary = Summary
format_of asked.States = Lines
format_of asked.Sums = Summary

-- what the words ask for of a run: its report, or samples of it, with this margin of sums
abbrev pub IsShownRun : OutputFormat → ℕ → SceneData → List ℕ → Status → Type 0
IsShownRun asked.Lines margin scene text status = IsReport Lines scene text status
IsShownRun asked.Summary margin scene text status = IsReport Summary scene text status
IsShownRun asked.States margin scene text status = IsSampled sampled.States scene text status
IsShownRun asked.Sums margin scene text status = IsSampled (sampled.Sums margin) scene text status

-- what each mode shows of a scene, by the settings; one of them cuts it at the tick, and one shows no scene alone
abbrev pub Shows : Mode → Settings → SceneData → List ℕ → Status → Type 0
Shows Run settings scene text status = IsShownRun settings.format settings.margin scene text status
Shows Plain settings scene text status = IsShownRun settings.format settings.margin scene text status
Shows Check settings scene text status = IsSceneText (codes "scene") (format_of settings.format) scene text status
Shows Load settings scene text status = IsShownRun settings.format settings.margin scene text status
Shows Cut settings scene text status = IsCutText (format_of settings.format) settings.at scene text status
Shows Audit settings scene text status = ⊥

-- the same for the scene that is made of the number, with this many disks
abbrev pub OfMade : ℕ → ℕ → (SceneData → List ℕ → Status → Type 0) → List ℕ → Status → Type 0
OfMade number disks shown text status = (scene : SceneData) × IsMade number disks scene × shown scene text status

-- what is read of a source: a scene or why there is none, and a claimed report
pub record Input : Type 0 where
  pub said : Reading
  pub claimed : List ℕ

-- the output of each mode: for the scene that is read, or for one that is made
abbrev pub OfMode : Mode → Settings → Input → List ℕ → Status → Type 0
OfMode Run settings input text status = OfReading (IsShownRun settings.format settings.margin) input.said text status
OfMode Plain settings input text status = OfReading (IsShownRun settings.format settings.margin) input.said text status
OfMode Check settings input text status = OfReading (IsSceneText (codes "scene") (format_of settings.format)) input.said text status
OfMode Load settings input text status = OfMade settings.number settings.disks (IsShownRun settings.format settings.margin) text status
OfMode Cut settings input text status = OfReading (IsCutText (format_of settings.format) settings.at) input.said text status
OfMode Audit settings input text status = OfAudit input.said input.claimed text status

-- the output for the settings of words, if there are any, and what is read from the source
abbrev pub IsOutput : Option Settings → Input → List ℕ → Status → Type 0
IsOutput None input text status = (text ≡ bad_words_line) × (status ≡ BadWords)
IsOutput (Some settings) input text status = OfMode settings.mode settings input text status
