-- The output of an audit.
use Rattle.std.specs.Prelude.{◌≡◌, ℕ, List, [], ◌∷◌, ◌++◌, codes, decimal, Option, Some, None, Ok, Err}
use Rattle.fixed_motion.specs.Scene.{SceneData}
use Rattle.text_lines.specs.Lines.{line_of}
use Rattle.report_audit.specs.Compared.{IsVerdict}
use Rattle.report_audit.specs.declared.verdict.Verdict.{Verdict}
use Rattle.report_audit.specs.declared.verdict.Verdict.TheVariants.{Same, Line}
use Rattle.program_modes.specs.declared.status.Status.{Status}
use Rattle.program_modes.specs.declared.status.Status.TheVariants.{Done, SceneRefused, Wrong}
use Rattle.program_modes.specs.Refusals.{refusal_line}
use Rattle.program_modes.specs.Reports.{Reading}
use Rattle.program_modes.specs.Audits.{IsReportOf}

-- the report's line there, if it has one
abbrev pub expected_line : Option (List ℕ) → List ℕ
expected_line None = line_of (codes "expected nothing" ∷ [])
expected_line (Some line) = line_of (codes "expected" ∷ line ∷ [])

-- what an audit with this verdict writes
abbrev pub verdict_text : Verdict → List ℕ
verdict_text (Same lines) = line_of (codes "audit ok" ∷ decimal lines ∷ [])
verdict_text (Line number expected) = line_of (codes "audit line" ∷ decimal number ∷ []) ++ expected_line expected

-- the status of an audit with this verdict
abbrev pub verdict_status : Verdict → Status
verdict_status (Same lines) = Done
verdict_status (Line number expected) = Wrong

-- what is shown of a scene and a claimed report of its run
abbrev pub ShowsAudit : SceneData → List ℕ → List ℕ → Status → Type 0
ShowsAudit scene claimed text status =
    (report : List ℕ) × (verdict : Verdict) × IsReportOf scene report × IsVerdict report claimed verdict
    × (text ≡ verdict_text verdict) × (status ≡ verdict_status verdict)

-- the output, given what the bytes before the parting line say and the claimed report after it
abbrev pub OfAudit : Reading → List ℕ → List ℕ → Status → Type 0
OfAudit (Ok scene) claimed text status = ShowsAudit scene claimed text status
OfAudit (Err fault) claimed text status = (text ≡ refusal_line fault) × (status ≡ SceneRefused)
