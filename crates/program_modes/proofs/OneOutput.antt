-- There is one output.
use Rattle.std.proofs.Common.{ap, ◌≡◌, ◌≢◌, ◌⊎◌, inl, inr, ℕ, ◌<◌, ◌≤◌, List, Option, Some, None, Ok, Err, refl, subst, sym, arith, ◌∙◌}
use Rattle.std.specs.Prelude.{IfSome, codes}
use Rattle.fixed_motion.specs.Scene.{SceneData, IsValidScene}
use Rattle.event_rules.specs.declared.change.Change.{Change}
use Rattle.event_rules.specs.declared.outcome.Outcome.{Outcome}
use Rattle.event_rules.proofs.Exists.{each_scene_runs}
use Rattle.event_rules.proofs.OneRun.{one_run}
use Rattle.scene_reader.specs.Laws.{IsSceneOrRefusal}
use Rattle.collision_report.specs.declared.format.Format.{Format}
use Rattle.collision_report.specs.declared.format.Format.TheVariants.{Lines, Summary}
use Rattle.collision_report.specs.Report.{report}
use Rattle.run_samples.specs.declared.sample.Sample.TheVariants as sampled
use Rattle.run_samples.specs.Samples.{samples}
use Rattle.program_modes.specs.declared.status.Status.{Status}
use Rattle.program_modes.specs.declared.status.Status.TheVariants.{Done, BadWords, SceneRefused}
use Rattle.resume.specs.Parts.{before_scene}
use Rattle.resume.proofs.InParts.{before_valid}
use Rattle.scene_maker.specs.Made.{IsMade}
use Rattle.scene_maker.proofs.Scenes.{one_scene}
use Rattle.command_words.specs.declared.settings.Mode.{Mode}
use Rattle.command_words.specs.declared.settings.Mode.TheVariants.{Run, Plain, Check, Load, Cut, Audit}
use Rattle.command_words.specs.declared.settings.OutputFormat.{OutputFormat}
use Rattle.command_words.specs.declared.settings.OutputFormat.TheVariants as asked
use Rattle.command_words.specs.declared.settings.Settings.{Settings}
use Rattle.command_words.specs.Words.{settings_of}
use Rattle.command_words.specs.Ranges.{AreInRange}
use Rattle.command_words.proofs.InRange.{in_range}
use Rattle.program_modes.specs.Refusals.{bad_words_line, late_cut_line, refusal_line}
use Rattle.program_modes.specs.Output.{Input, IsOutput, OfMode, OfMade, OfReading, IsShownRun, IsSceneText, IsTextLeft, IsCutText, format_of, scene_text_of, text_left}
use Rattle.program_modes.specs.Reports.{Reading, IsOfRun, status_of}
use Rattle.program_modes.specs.Laws.{OneOutput, DependsOnAlone, RunsScene}
use Rattle.program_modes.specs.Verdicts.{ShowsAudit, OfAudit, verdict_text, verdict_status}
use Rattle.report_audit.specs.Compared.{IsVerdict}
use Rattle.report_audit.proofs.Verdicts.{each_has_a_verdict, one_verdict}

-- there is exactly one text with its status
abbrev pub HasOne : (List ℕ → Status → Type 0) → Type 0
HasOne output = (text : List ℕ) × (status : Status) × output text status
    × ((other : List ℕ) (own : Status) → output other own → (other ≡ text) × (own ≡ status))

-- of each kind of text a scene's run has one
one_of_run : (text_of : SceneData → List Change → Outcome → List ℕ) (scene : SceneData) → IsValidScene scene → HasOne (IsOfRun text_of scene)
one_of_run text_of scene valid =
    let run = each_scene_runs scene valid in (
      text_of scene run.0 run.1,
      status_of run.1,
      (run.0, run.1, run.2, refl, refl),
      λ other own h.
          let same = one_run scene.rules scene.disks h.0 run.0 h.1 run.1 h.2 run.2 in
          (h.3 ∙ (λ i. text_of scene (same.0 i) (same.1 i)), h.4 ∙ (λ i. status_of (same.1 i))),
    )

one_shown : (format : OutputFormat) (margin : ℕ) (scene : SceneData) → IsValidScene scene → HasOne (IsShownRun format margin scene)
one_shown asked.Lines margin scene valid = one_of_run (report Lines) scene valid
one_shown asked.Summary margin scene valid = one_of_run (report Summary) scene valid
one_shown asked.States margin scene valid = one_of_run (samples sampled.States) scene valid
one_shown asked.Sums margin scene valid = one_of_run (samples (sampled.Sums margin)) scene valid

one_text : (name : List ℕ) (format : Format) (scene : SceneData) → HasOne (IsSceneText name format scene)
one_text name format scene = (scene_text_of name format scene, Done, (refl, refl), λ other own h. h)

-- what is left after a tick of the scene
pub one_left : (format : Format) (at : ℕ) (scene : SceneData) → at ≤ scene.rules.end → IsValidScene scene → HasOne (IsTextLeft format at scene)
one_left format at scene le valid =
    let part = before_scene scene at in
    let run = each_scene_runs part (before_valid scene at le valid) in (
      text_left format at scene run.0 run.1,
      status_of run.1,
      (run.0, run.1, run.2, refl, refl),
      λ other own h.
          let same = one_run part.rules part.disks h.0 run.0 h.1 run.1 h.2 run.2 in
          (h.3 ∙ (λ i. text_left format at scene (same.0 i) (same.1 i)), h.4 ∙ (λ i. status_of (same.1 i))),
    )

below_or_not : (m n : ℕ) → (m < n) ⊎ (n ≤ m)
below_or_not m n = grind arith

one_cut : (format : Format) (at : ℕ) (scene : SceneData) → IsValidScene scene → HasOne (IsCutText format at scene)
one_cut format at scene valid = elim (below_or_not scene.rules.end at) [
  | inl late ↦ (
    late_cut_line,
    SceneRefused,
    inl (late, (refl, refl)),
    λ other own h. elim h [ inl refused ↦ refused.1 | inr left ↦ absurd (omega (arith, late, left.0)) ],
  )
  | inr le ↦
      let one = one_left format at scene le valid in (
        one.0,
        one.1,
        inr (le, one.2),
        λ other own h. elim h [ inl refused ↦ absurd (omega (arith, le, refused.0)) | inr left ↦ one.3 other own left.1 ],
      )
]

of_reading : (shown : SceneData → List ℕ → Status → Type 0) (said : Reading) → ((scene : SceneData) → IsValidScene scene → HasOne (shown scene)) →
    IsSceneOrRefusal said → HasOne (OfReading shown said)
of_reading shown (Ok scene) one valid = one scene valid
of_reading shown (Err fault) one refusal = (refusal_line fault, SceneRefused, (refl, refl), λ other own h. h)

of_made : (settings : Settings) → AreInRange settings → (shown : SceneData → List ℕ → Status → Type 0) →
    ((scene : SceneData) → IsValidScene scene → HasOne (shown scene)) → HasOne (OfMade settings.number settings.disks shown)
of_made settings ranges shown one =
    let made = one_scene settings.number settings.disks ranges.few_disks in
    let own = one made.0 made.2 in (
      own.0,
      own.1,
      (made.0, made.1, own.2),
      λ other status h. own.3 other status (subst (λ (scene : SceneData). shown scene other status) (made.3 h.0 h.1) h.2),
    )

-- what is shown of the run of the scene that is made
pub one_of_made : (settings : Settings) → AreInRange settings → HasOne (OfMade settings.number settings.disks (IsShownRun settings.format settings.margin))
one_of_made settings ranges = of_made settings ranges (IsShownRun settings.format settings.margin) (one_shown settings.format settings.margin)

-- the verdict on a claimed report
one_of_scene : (scene : SceneData) (claimed : List ℕ) → IsValidScene scene → HasOne (ShowsAudit scene claimed)
one_of_scene scene claimed valid =
    let run = each_scene_runs scene valid in
    let own : List ℕ = report Lines scene run.0 run.1 in
    let verdict = each_has_a_verdict own claimed in (
      verdict_text verdict.0,
      verdict_status verdict.0,
      (own, verdict.0, (status_of run.1, (run.0, run.1, run.2, refl, refl)), verdict.1, refl, refl),
      λ other status h.
          let shown = h.2.1 in
          let same = one_run scene.rules scene.disks shown.0 run.0 shown.1 run.1 shown.2 run.2 in
          let text : h.0 ≡ own = shown.3 ∙ (λ i. report Lines scene (same.0 i) (same.1 i)) in
          let is = one_verdict own claimed h.1 verdict.0
          (subst (λ (l : List ℕ). IsVerdict l claimed h.1) text h.3) verdict.1 in
          (h.4 ∙ ap verdict_text is, h.5 ∙ ap verdict_status is),
    )

pub one_of_audit : (said : Reading) (claimed : List ℕ) → IsSceneOrRefusal said → HasOne (OfAudit said claimed)
one_of_audit (Ok scene) claimed valid = one_of_scene scene claimed valid
one_of_audit (Err fault) claimed refusal = (refusal_line fault, SceneRefused, (refl, refl), λ other own h. h)

of_mode : (mode : Mode) (settings : Settings) → AreInRange settings → (input : Input) → IsSceneOrRefusal input.said → HasOne (OfMode mode settings input)
of_mode Run settings ranges input h = of_reading (IsShownRun settings.format settings.margin) input.said (one_shown settings.format settings.margin) h
of_mode Plain settings ranges input h = of_reading (IsShownRun settings.format settings.margin) input.said (one_shown settings.format settings.margin) h
of_mode Check settings ranges input h =
    of_reading (IsSceneText (codes "scene") (format_of settings.format)) input.said (λ scene valid. one_text (codes "scene") (format_of settings.format) scene) h
of_mode Load settings ranges input h = one_of_made settings ranges
of_mode Cut settings ranges input h = of_reading (IsCutText (format_of settings.format) settings.at) input.said (one_cut (format_of settings.format) settings.at) h
of_mode Audit settings ranges input h = one_of_audit input.said input.claimed h

-- for settings in their ranges, if there are any, there is exactly one output
pub one_of_settings : (settings : Option Settings) → IfSome settings AreInRange → (input : Input) → IsSceneOrRefusal input.said → HasOne (IsOutput settings input)
one_of_settings None ranges input h = (bad_words_line, BadWords, (refl, refl), λ other own k. k)
one_of_settings (Some settings) ranges input h = of_mode settings.mode settings ranges input h

if_in_range : (found : Option Settings) → ((settings : Settings) → found ≡ Some settings → AreInRange settings) → IfSome found AreInRange
if_in_range None h = tt
if_in_range (Some settings) h = h settings refl

-- what words ask for is in its range
pub words_in_range : (words : List (List ℕ)) → IfSome (settings_of words) AreInRange
words_in_range words = if_in_range (settings_of words) (in_range words)

pub one_output : OneOutput
one_output words input h = one_of_settings (settings_of words) (words_in_range words) input h

-- no format but one asks for the margin
same_margin : (format : OutputFormat) (a b : ℕ) → (format ≡ asked.Sums → a ≡ b) → (scene : SceneData) (text : List ℕ) (status : Status) →
    IsShownRun format a scene text status → IsShownRun format b scene text status
same_margin asked.Lines a b margin scene text status h = h
same_margin asked.Summary a b margin scene text status h = h
same_margin asked.States a b margin scene text status h = h
same_margin asked.Sums a b margin scene text status h = subst (λ (n : ℕ). IsShownRun asked.Sums n scene text status) (margin refl) h

same_shown : (a b : Settings) → a.format ≡ b.format → (a.format ≡ asked.Sums → a.margin ≡ b.margin) → (scene : SceneData) (text : List ℕ) (status : Status) →
    IsShownRun a.format a.margin scene text status → IsShownRun b.format b.margin scene text status
same_shown a b format margin scene text status h =
    subst (λ (f : OutputFormat). IsShownRun f b.margin scene text status) format (same_margin a.format a.margin b.margin margin scene text status h)

same_read : (shown other : SceneData → List ℕ → Status → Type 0) → ((scene : SceneData) (text : List ℕ) (status : Status) → shown scene text status → other scene text status) →
    (said : Reading) (text : List ℕ) (status : Status) → OfReading shown said text status → OfReading other said text status
same_read shown other f (Ok scene) text status h = f scene text status h
same_read shown other f (Err fault) text status h = h

of_same : (mode : Mode) (a b : Settings) → (mode ≢ Audit → a.format ≡ b.format) →
    (RunsScene mode ⊎ (mode ≡ Load) → a.format ≡ asked.Sums → a.margin ≡ b.margin) → (mode ≡ Load → (a.number ≡ b.number) × (a.disks ≡ b.disks)) → (mode ≡ Cut → a.at ≡ b.at) →
    (input : Input) (text : List ℕ) (status : Status) → OfMode mode a input text status → OfMode mode b input text status
of_same Run a b format margin made cut input text status h =
    same_read (IsShownRun a.format a.margin) (IsShownRun b.format b.margin)
    (same_shown a b (format (λ e. cc)) (margin (inl (inl refl)))) input.said text status h
of_same Plain a b format margin made cut input text status h =
    same_read (IsShownRun a.format a.margin) (IsShownRun b.format b.margin)
    (same_shown a b (format (λ e. cc)) (margin (inl (inr refl)))) input.said text status h
of_same Check a b format margin made cut input text status h =
    subst (λ f. OfReading (IsSceneText (codes "scene") (format_of f)) input.said text status) (format (λ e. cc)) h
of_same Load a b format margin made cut input text status h =
    let same = made refl in (
      h.0,
      subst (λ n. IsMade n b.disks h.0) same.0 (subst (λ n. IsMade a.number n h.0) same.1 h.1),
      same_shown a b (format (λ e. cc)) (margin (inr refl)) h.0 text status h.2,
    )
of_same Cut a b format margin made cut input text status h =
    subst (λ f. OfReading (IsCutText (format_of f) b.at) input.said text status) (format (λ e. cc))
    (subst (λ n. OfReading (IsCutText (format_of a.format) n) input.said text status) (cut refl) h)
of_same Audit a b format margin made cut input text status h = h

-- the output is the same with each engine that runs a scene
as_run : (mode : Mode) (settings : Settings) (input : Input) (text : List ℕ) (status : Status) → RunsScene mode →
    OfMode mode settings input text status → OfMode Run settings input text status
as_run mode settings input text status (inl e) h = subst (λ (m : Mode). OfMode m settings input text status) e h
as_run mode settings input text status (inr e) h = subst (λ (m : Mode). OfMode m settings input text status) e h

of_run : (mode : Mode) (settings : Settings) (input : Input) (text : List ℕ) (status : Status) → RunsScene mode →
    OfMode Run settings input text status → OfMode mode settings input text status
of_run mode settings input text status (inl e) h = subst (λ (m : Mode). OfMode m settings input text status) (sym e) h
of_run mode settings input text status (inr e) h = subst (λ (m : Mode). OfMode m settings input text status) (sym e) h

no_audit : (mode : Mode) → RunsScene mode → mode ≢ Audit
no_audit mode (inl run) audit = cc
no_audit mode (inr plain) audit = cc

pub depends_on_alone : DependsOnAlone
depends_on_alone a b alike input text status h = elim alike.mode [
  | inl mode ↦
      subst (λ (m : Mode). OfMode m b input text status) mode
      (of_same a.mode a b alike.format alike.margin alike.made alike.cut input text status h)
  | inr runs ↦
      let format : Run ≢ Audit → a.format ≡ b.format = λ e. alike.format (no_audit a.mode runs.0) in
      let margin : RunsScene Run ⊎ (Run ≡ Load) → a.format ≡ asked.Sums → a.margin ≡ b.margin = λ e. alike.margin (inl runs.0) in
      of_run b.mode b input text status runs.1
      (of_same Run a b format margin (λ e. cc) (λ e. cc) input text status (as_run a.mode a input text status runs.0 h))
]
