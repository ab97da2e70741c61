-- The verdict on a run whose report was compared while it was told.
use Rattle.std.proofs.Common.{◌≡◌, ℕ, List, [], ◌∷◌, ◌++◌, append-nil, Bool, true, false, sym, ap, ◌∙◌, subst, refl, Option, Some}
use Rattle.std.specs.Prelude.{flat_map, IfOk, Result, Ok, Err}
use Rattle.fixed_motion.specs.Scene.{SceneData, IsValidScene}
use Rattle.text_lines.specs.Lines.{ended}
use Rattle.collision_report.specs.declared.format.Format.TheVariants.{Lines}
use Rattle.collision_report.specs.ShortLines.{AreShort}
use Rattle.collision_report.proofs.ShortRuns.{report_short}
use Rattle.report_audit.specs.Compared.{HasShortLines, Compares}
use Rattle.report_audit.specs.declared.verdict.Verdict.{Verdict}
use Rattle.report_audit.proofs.Short.{none_short, one_short}
use Rattle.program_modes.specs.declared.status.Status.{Status}
use Rattle.program_modes.specs.declared.status.Status.TheVariants.{Done, BadWords, SceneRefused, SpeedLimit, RoundLimit, ReadFault, WriteFault, NoMemory, Wrong}
use Rattle.program_modes.specs.Reports.{IsReport}
use Rattle.program_modes.specs.Answers.{Wrote, WroteWhole, WrotePrefix}
use Rattle.program_modes.specs.Shows.{IsOfScene}
use Rattle.program_modes.specs.Audits.{ComparesRun, IsUnrefused, CountsAudit, answer_of, is_whole}
use Rattle.program_modes.specs.declared.auditing.AuditFault.{AuditFault}
use Rattle.report_audit.specs.Comparing.{CountsJudged}
use Rattle.report_audit.specs.declared.verdict.NoVerdict.{NoVerdict}
use Rattle.report_audit.specs.declared.verdict.NoVerdict.TheVariants.{Unread, Unfinished}

lines_short : (lines : List (List ℕ)) → AreShort lines → HasShortLines (flat_map ended lines)
lines_short [] h = none_short
lines_short (l ∷ ls) h = one_short l (flat_map ended ls) h.0 (lines_short ls h.1)

-- the lines of a report are short
report_lines : (scene : SceneData) (text : List ℕ) (own : Status) → IsValidScene scene → IsReport Lines scene text own →
    HasShortLines text
report_lines scene text own valid h =
    let is = report_short Lines scene h.0 h.1 valid h.2 in
    subst HasShortLines (sym (h.3 ∙ is.1)) (lines_short is.0 is.2)

-- what was told of a run: a report, or a front of one
record IsTold (scene : SceneData) (told : List ℕ) (status : Status) : Type 0 where
  pub text : List ℕ
  pub own : Status
  pub more : List ℕ
  pub report : IsReport Lines scene text own
  pub begins : text ≡ told ++ more
  pub whole : is_whole status ≡ true → more ≡ []

all_told : (scene : SceneData) (told : List ℕ) (own status : Status) →
    WroteWhole (IsReport Lines scene) (Some []) (Some told) own → IsTold scene told status
all_told scene told own status h = record {
  text = h.0;
  own = own;
  more = [];
  report = h.1;
  begins = sym h.2 ∙ sym (append-nil told);
  whole = λ e. refl;
}

front_told : (scene : SceneData) (told : List ℕ) (status : Status) → is_whole status ≡ false →
    WrotePrefix (IsReport Lines scene) (Some []) (Some told) → IsTold scene told status
front_told scene told status broke h = record {
  text = h.0;
  own = h.1;
  more = h.3.1;
  report = h.2;
  begins = h.3.2 ∙ ap (λ (l : List ℕ). l ++ h.3.1) (sym h.3.3);
  whole = λ e. absurd (let same : false ≡ true = sym broke ∙ e in cc);
}

was_told : (scene : SceneData) (told : List ℕ) (status : Status) → IsOfScene status →
    Wrote (IsReport Lines scene) (Some []) (Some told) status → IsTold scene told status
was_told scene told Done is h = all_told scene told Done Done h
was_told scene told BadWords is h = absurd is
was_told scene told SceneRefused is h = all_told scene told SceneRefused SceneRefused h
was_told scene told SpeedLimit is h = all_told scene told SpeedLimit SpeedLimit h
was_told scene told RoundLimit is h = all_told scene told RoundLimit RoundLimit h
was_told scene told ReadFault is h = absurd is
was_told scene told WriteFault is h = front_told scene told WriteFault refl h
was_told scene told NoMemory is h = front_told scene told NoMemory refl h
was_told scene told Wrong is h = all_told scene told Wrong Wrong h

-- a verdict on what was told of a run is one on its report
pub compared_run : (scene : SceneData) (start after : Option (List ℕ)) (before told : List ℕ) (status : Status) (v : Verdict) →
    IsValidScene scene → IsOfScene status → before ≡ [] →
    Wrote (IsReport Lines scene) (Some before) (Some told) status →
    ((more : List ℕ) → (is_whole status ≡ true → more ≡ []) → HasShortLines (told ++ more) →
    Compares (told ++ more) start after v) → ComparesRun scene start after v
compared_run scene start after before told status v valid of none wrote judges =
    let is = was_told scene told status of
    (subst (λ (l : List ℕ). Wrote (IsReport Lines scene) (Some l) (Some told) status) none wrote) in
    let short = subst HasShortLines is.begins (report_lines scene is.text is.own valid is.report) in (
      is.text,
      (is.own, is.report),
      subst (λ (l : List ℕ). Compares l start after v) (sym is.begins)
          (judges is.more is.whole short),
    )

pub run_compared : (scene : SceneData) (start after given : Option (List ℕ)) (before told : List ℕ) (status : Status)
    (whole : Bool) (r : Result Verdict NoVerdict) (answer : Result Verdict AuditFault) → given ≡ start →
    IsValidScene scene → IsOfScene status →
    before ≡ [] → whole ≡ is_whole status → Wrote (IsReport Lines scene) (Some before) (Some told) status →
    answer ≡ answer_of r →
    IfOk r (λ v. (more : List ℕ) → (whole ≡ true → more ≡ []) → HasShortLines (told ++ more) →
    Compares (told ++ more) given after v) → IfOk answer (ComparesRun scene start after)
run_compared scene start after given before told status whole (Ok v) answer is valid of none same wrote e judges =
    subst (λ (a : Result Verdict AuditFault). IfOk a (ComparesRun scene start after)) (sym e)
    (compared_run scene start after before told status v valid of none wrote
    (λ more end short. subst (λ (o : Option (List ℕ)). Compares (told ++ more) o after v) is
    (judges more (λ w. end (sym same ∙ w)) short)))
run_compared scene start after given before told status whole (Err Unread) answer is valid of none same wrote e judges =
    subst (λ (a : Result Verdict AuditFault). IfOk a (ComparesRun scene start after)) (sym e) tt
run_compared scene start after given before told status whole (Err Unfinished) answer is valid of none same wrote e judges =
    subst (λ (a : Result Verdict AuditFault). IfOk a (ComparesRun scene start after)) (sym e) tt

pub run_counted : (before after : ℕ) (r : Result Verdict NoVerdict) (answer : Result Verdict AuditFault) →
    answer ≡ answer_of r → CountsJudged before after r → CountsAudit before after answer
run_counted before after (Ok v) answer e h = subst (CountsAudit before after) (sym e) h
run_counted before after (Err Unread) answer e h = subst (CountsAudit before after) (sym e) h
run_counted before after (Err Unfinished) answer e h = subst (CountsAudit before after) (sym e) h

pub run_unrefused : (r : Result Verdict NoVerdict) (answer : Result Verdict AuditFault) → answer ≡ answer_of r →
    IsUnrefused answer
run_unrefused (Ok v) answer e = subst IsUnrefused (sym e) tt
run_unrefused (Err Unread) answer e = subst IsUnrefused (sym e) tt
run_unrefused (Err Unfinished) answer e = subst IsUnrefused (sym e) tt
