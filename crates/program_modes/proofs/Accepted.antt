-- An audit accepts what a run wrote, and nothing else.
use Rattle.std.proofs.Common.{◌≡◌, ◌≢◌, ◌⊎◌, inl, inr, ℕ, List, length, Some, Ok, Err, sym, ap, ◌∙◌, subst, refl}
use Rattle.fixed_motion.specs.Scene.{SceneData}
use Rattle.event_rules.specs.declared.change.Limit.TheVariants.{Rounds, Speed}
use Rattle.event_rules.specs.declared.outcome.Outcome.{Outcome}
use Rattle.event_rules.specs.declared.outcome.Outcome.TheVariants.{Done as DoneOutcome, Limit as Passes}
use Rattle.event_rules.proofs.OneRun.{one_run}
use Rattle.collision_report.specs.declared.format.Format.TheVariants.{Lines}
use Rattle.collision_report.specs.Report.{report}
use Rattle.scene_reader.specs.Says.{says}
use Rattle.command_words.specs.declared.settings.Mode.{Mode}
use Rattle.command_words.specs.declared.settings.Mode.TheVariants.{Run, Plain}
use Rattle.command_words.specs.declared.settings.OutputFormat.{OutputFormat}
use Rattle.command_words.specs.declared.settings.OutputFormat.TheVariants as asked
use Rattle.command_words.specs.declared.settings.Settings.{Settings}
use Rattle.report_audit.specs.Compared.{lines_of, IsVerdict}
use Rattle.report_audit.specs.Laws.{joined}
use Rattle.report_audit.specs.declared.verdict.Verdict.{Verdict}
use Rattle.report_audit.specs.declared.verdict.Verdict.TheVariants.{Same, Line}
use Rattle.report_audit.proofs.Joined.{joins_part}
use Rattle.program_modes.specs.declared.status.Status.{Status}
use Rattle.program_modes.specs.declared.status.Status.TheVariants.{Done, SceneRefused, Wrong}
use Rattle.program_modes.specs.Output.{Input, OfMode, OfReading, IsShownRun}
use Rattle.program_modes.specs.Answers.{IsInputIn}
use Rattle.program_modes.specs.Reports.{Reading, IsReport, status_of}
use Rattle.program_modes.specs.Verdicts.{OfAudit, verdict_text, verdict_status}
use Rattle.program_modes.specs.Laws.{IsOutputFor, IsReportFor, AuditsAccept, AuditsRefuse, AuditsKeepRefusals}

-- ---- what a run writes
-- the bytes state a scene, and the text is its report
record Reports (bytes text : List ℕ) (status : Status) : Type 0 where
  scene : SceneData
  says : says bytes ≡ Ok scene
  report : IsReport Lines scene text status

of_reading : (said : Reading) (bytes text : List ℕ) (status : Status) → said ≡ says bytes → OfReading (IsReport Lines) said text status →
    status ≢ SceneRefused → Reports bytes text status
of_reading (Ok scene) bytes text status e h accepted = record { scene = scene; says = sym e; report = h }
of_reading (Err fault) bytes text status e h accepted = absurd (accepted h.1)

in_lines : (mode : Mode) (format : OutputFormat) (settings : Settings) (bytes text : List ℕ) (status : Status) (input : Input) →
    (mode ≡ Run) ⊎ (mode ≡ Plain) → settings.format ≡ asked.Lines → IsInputIn mode (Some bytes) input →
    OfMode mode settings input text status → status ≢ SceneRefused → Reports bytes text status
in_lines mode format settings bytes text status input modes lines reads writes accepted = elim modes [
  | inl run ↦
      let said : input.said ≡ says bytes = subst (λ (m : Mode). IsInputIn m (Some bytes) input) run reads in
      let shown : OfReading (IsShownRun settings.format settings.margin) input.said text status =
      subst (λ (m : Mode). OfMode m settings input text status) run writes in
      of_reading input.said bytes text status said
      (subst (λ (f : OutputFormat). OfReading (IsShownRun f settings.margin) input.said text status) lines shown) accepted
  | inr plain ↦
      let said : input.said ≡ says bytes = subst (λ (m : Mode). IsInputIn m (Some bytes) input) plain reads in
      let shown : OfReading (IsShownRun settings.format settings.margin) input.said text status =
      subst (λ (m : Mode). OfMode m settings input text status) plain writes in
      of_reading input.said bytes text status said
      (subst (λ (f : OutputFormat). OfReading (IsShownRun f settings.margin) input.said text status) lines shown) accepted
]

reports_of : (run : Settings) (bytes text : List ℕ) (status : Status) → IsReportFor run bytes text status → Reports bytes text status
reports_of run bytes text status h =
    let output = h.output in
    in_lines run.mode run.format run bytes text status output.0 h.reports.0 h.reports.1 output.1 output.2 h.accepted

-- ---- the audit
pub audits_accept : AuditsAccept
audits_accept run audit bytes text status h mode =
    let is = reports_of run bytes text status h in
    let parts = joins_part bytes text h.ends h.no_mark in
    let input : Input = record { said = Ok is.scene; claimed = text } in (
      input,
      subst (λ (m : Mode). IsInputIn m (Some (joined bytes text)) input) (sym mode)
          (sym is.says ∙ ap says (sym parts.0), sym parts.1),
      subst (λ (m : Mode). OfMode m audit input (verdict_text (Same (length (lines_of text)))) Done) (sym mode)
          (text, Same (length (lines_of text)), (status, is.report), (refl, refl), refl, refl),
    )

-- a verdict on another claimed report
other_is_wrong : (verdict : Verdict) (text claimed : List ℕ) → IsVerdict text claimed verdict → claimed ≢ text →
    verdict_status verdict ≡ Wrong
other_is_wrong (Same lines) text claimed h other = absurd (other h.0)
other_is_wrong (Line number expected) text claimed h other = refl

of_audit : (said : Reading) (scene : SceneData) (claimed text shown : List ℕ) (status own : Status) → said ≡ Ok scene →
    IsReport Lines scene text status → claimed ≢ text → OfAudit said claimed shown own → own ≡ Wrong
of_audit said scene claimed text shown status own e is other h =
    let audit : OfAudit (Ok scene) claimed shown own = subst (λ (r : Reading). OfAudit r claimed shown own) e h in
    let kept = audit.2.1 in
    let same = one_run scene.rules scene.disks kept.0 is.0 kept.1 is.1 kept.2 is.2 in
    let text_is : audit.0 ≡ text =
    kept.3 ∙ (λ i. report Lines scene (same.0 i) (same.1 i)) ∙ sym is.3 in
    audit.5 ∙ other_is_wrong audit.1 text claimed (subst (λ (l : List ℕ). IsVerdict l claimed audit.1) text_is audit.3) other

pub audits_refuse : AuditsRefuse
audits_refuse run audit bytes text status h mode claimed shown own other output =
    let is = reports_of run bytes text status h in
    let parts = joins_part bytes claimed h.ends h.no_mark in
    let input = output.0 in
    let reads = subst (λ (m : Mode). IsInputIn m (Some (joined bytes claimed)) input) mode output.1 in
    let writes : OfAudit input.said input.claimed shown own =
    subst (λ (m : Mode). OfMode m audit input shown own) mode output.2 in
    let claims : input.claimed ≡ claimed = reads.1 ∙ parts.1 in
    of_audit input.said is.scene input.claimed text shown status own (reads.0 ∙ ap says parts.0 ∙ is.says) is.report
    (λ e. other (sym claims ∙ e)) writes

-- ---- refused scenes
done_not_refused : (outcome : Outcome) → SceneRefused ≢ status_of outcome
done_not_refused (DoneOutcome spots) e = cc
done_not_refused (Passes (Speed s)) e = cc
done_not_refused (Passes (Rounds s)) e = cc

run_not_refused : (format : OutputFormat) (margin : ℕ) (scene : SceneData) (text : List ℕ) → ¬ IsShownRun format margin scene text SceneRefused
run_not_refused asked.Lines margin scene text h = done_not_refused h.1 h.4
run_not_refused asked.Summary margin scene text h = done_not_refused h.1 h.4
run_not_refused asked.States margin scene text h = done_not_refused h.1 h.4
run_not_refused asked.Sums margin scene text h = done_not_refused h.1 h.4

-- the audit of what is refused
refused_audit : (said : Reading) (format : OutputFormat) (margin : ℕ) (text claimed : List ℕ) → OfReading (IsShownRun format margin) said text SceneRefused →
    OfAudit said claimed text SceneRefused
refused_audit (Ok scene) format margin text claimed h = absurd (run_not_refused format margin scene text h)
refused_audit (Err fault) format margin text claimed h = h

-- what is read of the lines, and that it is refused
record IsRefused (run : Settings) (bytes text : List ℕ) : Type 0 where
  said : Reading
  reads : said ≡ says bytes
  refused : OfReading (IsShownRun run.format run.margin) said text SceneRefused

is_refused : (run : Settings) (bytes text : List ℕ) → (run.mode ≡ Run) ⊎ (run.mode ≡ Plain) → IsOutputFor run bytes text SceneRefused →
    IsRefused run bytes text
is_refused run bytes text modes output =
    let input = output.0 in
    elim modes [
      | inl mode ↦ record {
        said = input.said;
        reads = subst (λ (m : Mode). IsInputIn m (Some bytes) input) mode output.1;
        refused = subst (λ (m : Mode). OfMode m run input text SceneRefused) mode output.2;
      }
      | inr mode ↦ record {
        said = input.said;
        reads = subst (λ (m : Mode). IsInputIn m (Some bytes) input) mode output.1;
        refused = subst (λ (m : Mode). OfMode m run input text SceneRefused) mode output.2;
      }
    ]

pub audits_keep_refusals : AuditsKeepRefusals
audits_keep_refusals run audit bytes text claimed modes ends no_mark output mode =
    let is = is_refused run bytes text modes output in
    let parts = joins_part bytes claimed ends no_mark in
    let input : Input = record { said = is.said; claimed = claimed } in (
      input,
      subst (λ (m : Mode). IsInputIn m (Some (joined bytes claimed)) input) (sym mode)
          (is.reads ∙ ap says (sym parts.0), sym parts.1),
      subst (λ (m : Mode). OfMode m audit input text SceneRefused) (sym mode)
          (refused_audit is.said run.format run.margin text claimed is.refused),
    )
