-- There is one output, what it depends on, what an audit accepts, and that what was written states a scene.
use Rattle.std.specs.Prelude.{◌≡◌, ◌≢◌, ◌⊎◌, ℕ, ◌+◌, List, [], ◌++◌, length, Some, Ok}
use Rattle.fixed_motion.specs.Scene.{SceneData}
use Rattle.event_rules.specs.declared.change.Change.{Change}
use Rattle.event_rules.specs.declared.outcome.Spot.{Spot}
use Rattle.event_rules.specs.declared.outcome.Outcome.TheVariants.{Done as DoneOutcome}
use Rattle.event_rules.specs.Run.{IsRun}
use Rattle.resume.specs.Parts.{before_scene, rest_scene}
use Rattle.resume.specs.Laws.{Resumes}
use Rattle.scene_reader.specs.Says.{says}
use Rattle.scene_reader.specs.Laws.{IsSceneOrRefusal}
use Rattle.command_words.specs.declared.settings.Mode.{Mode}
use Rattle.command_words.specs.declared.settings.Mode.TheVariants.{Run, Plain, Check, Load, Cut, Audit}
use Rattle.command_words.specs.declared.settings.OutputFormat.{OutputFormat}
use Rattle.command_words.specs.declared.settings.OutputFormat.TheVariants.{Lines, Sums}
use Rattle.command_words.specs.declared.settings.Settings.{Settings}
use Rattle.command_words.specs.Words.{settings_of}
use Rattle.report_audit.specs.Compared.{lines_of}
use Rattle.report_audit.specs.Laws.{EndsALine, HaveNoMark, joined}
use Rattle.report_audit.specs.declared.verdict.Verdict.TheVariants.{Same}
use Rattle.program_modes.specs.declared.status.Status.{Status}
use Rattle.program_modes.specs.declared.status.Status.TheVariants.{Done, SceneRefused, Wrong}
use Rattle.program_modes.specs.Output.{Input, IsOutput}
use Rattle.program_modes.specs.Answers.{Answers, IsInput, MayAnswer}
use Rattle.program_modes.specs.Verdicts.{verdict_text}

-- for given words, and for what is read, there is exactly one text with its status
abbrev pub OneOutput : Type 0
OneOutput = (words : List (List ℕ)) (input : Input) → IsSceneOrRefusal input.said →
    (text : List ℕ) × (status : Status) × IsOutput (settings_of words) input text status
    × ((other : List ℕ) (own : Status) → IsOutput (settings_of words) input other own → (other ≡ text) × (own ≡ status))

-- a text begins with what was taken
abbrev pub Begins : List ℕ → List ℕ → Type 0
Begins text taken = (rest : List ℕ) × (text ≡ taken ++ rest)

-- a sink that has taken nothing may ask that what it takes are prefixes of the output for these words and bytes
abbrev pub PrefixesMayBeAsked : Type 0
PrefixesMayBeAsked = (words : List (List ℕ)) (bytes : List ℕ) (input : Input) (text : List ℕ) (own : Status) →
    IsInput (settings_of words) (Some bytes) input → IsOutput (settings_of words) input text own →
    MayAnswer (settings_of words) (Some bytes) (Begins text) (Some [])

-- a scene that is read is run, over regions or by the reference engine
abbrev pub RunsScene : Mode → Type 0
RunsScene mode = (mode ≡ Run) ⊎ (mode ≡ Plain)

-- settings that ask for the same: what each mode shows depends on nothing else
pub record AskAlike (a b : Settings) : Type 0 where
  pub mode : (a.mode ≡ b.mode) ⊎ (RunsScene a.mode × RunsScene b.mode)
  pub format : a.mode ≢ Audit → a.format ≡ b.format
  pub margin : RunsScene a.mode ⊎ (a.mode ≡ Load) → a.format ≡ Sums → a.margin ≡ b.margin
  pub made : a.mode ≡ Load → (a.number ≡ b.number) × (a.disks ≡ b.disks)
  pub cut : a.mode ≡ Cut → a.at ≡ b.at

-- such settings have the same output: it doesn't depend on the numbers of regions, workers, turns and steps, nor on the kind
-- of burst
abbrev pub DependsOnAlone : Type 0
DependsOnAlone = (a b : Settings) → AskAlike a b →
    (input : Input) (text : List ℕ) (status : Status) → IsOutput (Some a) input text status → IsOutput (Some b) input text status

-- the output for these bytes
abbrev pub IsOutputFor : Settings → List ℕ → List ℕ → Status → Type 0
IsOutputFor settings bytes text status =
    (input : Input) × IsInput (Some settings) (Some bytes) input × IsOutput (Some settings) input text status

-- a beginning of the output for these bytes
abbrev pub IsBeginningFor : Settings → List ℕ → List ℕ → Type 0
IsBeginningFor settings bytes taken = (text : List ℕ) × (status : Status) × IsOutputFor settings bytes text status × Begins text taken

-- A sink that has taken nothing may ask of each byte that it is given that what it has taken then is such a beginning; and it
-- is one at the end, whatever the status.
abbrev pub OnlyBeginnings : Type 0
OnlyBeginnings = (words : List (List ℕ)) (settings : Settings) (bytes : List ℕ) → settings_of words ≡ Some settings →
    MayAnswer (Some settings) (Some bytes) (IsBeginningFor settings bytes) (Some [])
    × ((taken : List ℕ) (status : Status) → Answers (Some settings) (Some bytes) (Some []) (Some taken) status → IsBeginningFor settings bytes taken)

-- of the beginnings of two runs of the same bytes one begins with the other
abbrev pub BeginningsAgree : Type 0
BeginningsAgree = (words others : List (List ℕ)) (a b : Settings) (bytes x y : List ℕ) → settings_of words ≡ Some a →
    settings_of others ≡ Some b → AskAlike a b → IsBeginningFor a bytes x → IsBeginningFor b bytes y → Begins x y ⊎ Begins y x

-- settings with which the whole report of a scene that is read is written
abbrev pub WritesReports : Settings → Type 0
WritesReports settings = RunsScene settings.mode × (settings.format ≡ Lines)

-- lines of which none is the mark, and what is written for them if their scene isn't refused
pub record IsReportFor (settings : Settings) (bytes text : List ℕ) (status : Status) : Type 0 where
  pub reports : WritesReports settings
  pub ends : EndsALine bytes
  pub no_mark : HaveNoMark (lines_of bytes)
  pub output : IsOutputFor settings bytes text status
  pub accepted : status ≢ SceneRefused

-- an audit of a scene's lines, the mark and what a run of them wrote says that they are the same
abbrev pub AuditsAccept : Type 0
AuditsAccept = (run audit : Settings) (bytes text : List ℕ) (status : Status) → IsReportFor run bytes text status →
    audit.mode ≡ Audit → IsOutputFor audit (joined bytes text) (verdict_text (Same (length (lines_of text)))) Done

-- and of any other claimed report that it is wrong
abbrev pub AuditsRefuse : Type 0
AuditsRefuse = (run audit : Settings) (bytes text : List ℕ) (status : Status) → IsReportFor run bytes text status →
    audit.mode ≡ Audit → (claimed shown : List ℕ) (own : Status) → claimed ≢ text →
    IsOutputFor audit (joined bytes claimed) shown own → own ≡ Wrong

-- an audit of a scene's lines that are refused writes the same refusal, whatever report is claimed
abbrev pub AuditsKeepRefusals : Type 0
AuditsKeepRefusals = (run audit : Settings) (bytes text claimed : List ℕ) → RunsScene run.mode →
    EndsALine bytes → HaveNoMark (lines_of bytes) → IsOutputFor run bytes text SceneRefused →
    audit.mode ≡ Audit → IsOutputFor audit (joined bytes claimed) text SceneRefused

-- what a check writes of a scene states that scene, and a check of it writes the same
abbrev pub ChecksStay : Type 0
ChecksStay = (check : Settings) (bytes text : List ℕ) → check.mode ≡ Check → check.format ≡ Lines →
    IsOutputFor check bytes text Done → (says text ≡ says bytes) × IsOutputFor check text text Done

-- the text states a scene whose disks begin where the run up to the tick leaves them; and its own run, with its ticks
-- raised and after the changes of that one, is the whole run
pub record IsRest (scene : SceneData) (at : ℕ) (text : List ℕ) : Type 0 where
  pub first : List Change
  pub spots : List Spot
  pub before : IsRun (before_scene scene at) first (DoneOutcome spots)
  pub says : says text ≡ Ok (rest_scene scene at spots)
  pub runs : Resumes scene at first (rest_scene scene at spots)

-- this is so for each cut that is done
abbrev pub CutsResume : Type 0
CutsResume = (cut : Settings) (scene : SceneData) (bytes text : List ℕ) → cut.mode ≡ Cut → cut.format ≡ Lines →
    says bytes ≡ Ok scene → IsOutputFor cut bytes text Done → IsRest scene cut.at text

-- settings with which a scene is cut at the tick, and what is left is written in the format
abbrev pub CutsAt : Settings → ℕ → OutputFormat → Type 0
CutsAt settings at format = (settings.mode ≡ Cut) × (settings.at ≡ at) × (settings.format ≡ format)

-- the text is written when the scene is cut, and is then cut again
abbrev pub IsCutAgain : Settings → Settings → List ℕ → List ℕ → Type 0
IsCutAgain first again bytes text = (left : List ℕ) × IsOutputFor first bytes left Done × IsOutputFor again left text Done

-- to cut a scene at a tick, and then what was written at a second one, writes the same as to cut it once, at the sum of
-- both
abbrev pub CutsAddUp : Type 0
CutsAddUp = (first again once : Settings) (format : OutputFormat) (at more : ℕ) (bytes text : List ℕ) →
    CutsAt first at Lines → CutsAt again more format → CutsAt once (at + more) format →
    (IsCutAgain first again bytes text → IsOutputFor once bytes text Done)
    × (IsOutputFor once bytes text Done → IsCutAgain first again bytes text)
