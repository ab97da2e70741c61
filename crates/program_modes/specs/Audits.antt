-- What an audit says.
use Rattle.std.specs.Prelude.{◌≡◌, ◌≢◌, ℕ, ◌≤◌, Bool, true, false, List, [], ⊤, Option, Some, None, Result, Ok, Err}
use Rattle.report_ports.specs.Ports.{Rose}
use Rattle.fixed_motion.specs.Scene.{SceneData}
use Rattle.scene_reader.specs.declared.fault.SceneFault.{SceneFault}
use Rattle.scene_reader.specs.declared.fault.SceneFault.TheVariants as reading
use Rattle.collision_report.specs.declared.format.Format.TheVariants.{Lines}
use Rattle.report_audit.specs.Parting.{rest_of, front_of_known}
use Rattle.report_audit.specs.Compared.{IsVerdict, Compares}
use Rattle.report_audit.specs.declared.verdict.Verdict.{Verdict}
use Rattle.report_audit.specs.declared.verdict.Verdict.TheVariants.{Same, Line}
use Rattle.report_audit.specs.declared.verdict.NoVerdict.{NoVerdict}
use Rattle.report_audit.specs.declared.verdict.NoVerdict.TheVariants.{Unread, Unfinished}
use Rattle.program_modes.specs.declared.status.Status.{Status}
use Rattle.program_modes.specs.declared.status.Status.TheVariants.{Done, SpeedLimit, RoundLimit}
use Rattle.program_modes.specs.declared.auditing.AuditFault.{AuditFault}
use Rattle.program_modes.specs.declared.auditing.AuditFault.TheVariants.{Scene, ReadFault, NoMemory}
use Rattle.program_modes.specs.Reports.{IsReport, IsReadingOf}

-- ---- what an audit says
-- the claimed report: the bytes after the parting line; if the source doesn't know its bytes, any
abbrev pub IsClaimedOf : Option (List ℕ) → List ℕ → Type 0
IsClaimedOf None claimed = ⊤
IsClaimedOf (Some bytes) claimed = claimed ≡ rest_of bytes

-- the text is a report of the scene's run, whatever the status
abbrev pub IsReportOf : SceneData → List ℕ → Type 0
IsReportOf scene text = (own : Status) × IsReport Lines scene text own

-- the bytes before the parting line state a scene, and the verdict is right about the report of its run and the claimed one
abbrev pub IsAudited : Option (List ℕ) → Verdict → Type 0
IsAudited left verdict =
    (scene : SceneData) × (text : List ℕ) × (claimed : List ℕ) × IsReadingOf (front_of_known left) (Ok scene)
    × IsReportOf scene text × IsClaimedOf left claimed × IsVerdict text claimed verdict

-- a refusal of the bytes before the parting line themselves
abbrev pub IsRefusal : Option (List ℕ) → SceneFault → Type 0
IsRefusal left fault = IsReadingOf left (Err fault) × (fault ≢ reading.ReadFault) × (fault ≢ reading.NoMemory)

-- what the source had left, and the answer
abbrev pub IsAudit : Option (List ℕ) → Result Verdict AuditFault → Type 0
IsAudit left (Ok verdict) = IsAudited left verdict
IsAudit left (Err (Scene fault)) = IsRefusal (front_of_known left) fault
IsAudit left (Err ReadFault) = ⊤
IsAudit left (Err NoMemory) = ⊤

-- if the texts are the same, nothing is left of known bytes
abbrev pub IsRead : Verdict → Option (List ℕ) → Type 0
IsRead (Same lines) after = after ≡ Some []
IsRead (Line number expected) after = ⊤

-- the same for an answer of an audit, given what the source had left
abbrev pub Empties : Option (List ℕ) → Option (List ℕ) → Result Verdict AuditFault → Type 0
Empties None after result = ⊤
Empties (Some bytes) after (Ok verdict) = IsRead verdict after
Empties (Some bytes) after (Err fault) = ⊤

-- the source's count of faults before and after
abbrev pub CountsAudit : {A : Type 0} → ℕ → ℕ → Result A AuditFault → Type 0
CountsAudit before after (Ok a) = after ≡ before
CountsAudit before after (Err (Scene fault)) = after ≡ before
CountsAudit before after (Err ReadFault) = (before ≤ after) × Rose before after
CountsAudit before after (Err NoMemory) = after ≡ before

-- ---- its parts
-- a scene was read to the end of its source
abbrev pub HasRead : Option (List ℕ) → Option (List ℕ) → SceneData → Type 0
HasRead left left' scene = IsReadingOf left (Ok scene) × ((bytes : List ℕ) → left ≡ Some bytes → left' ≡ Some [])

-- the source was read to its end and states the scene, or its bytes are refused; of other faults nothing is said
abbrev pub ReadsFront : Option (List ℕ) → Option (List ℕ) → Result SceneData AuditFault → Type 0
ReadsFront left left' (Ok scene) = HasRead left left' scene
ReadsFront left left' (Err (Scene fault)) = IsRefusal left fault
ReadsFront left left' (Err ReadFault) = ⊤
ReadsFront left left' (Err NoMemory) = ⊤

-- the verdict is right about the report of the scene's run and what a claimed source had left
abbrev pub ComparesRun : SceneData → Option (List ℕ) → Option (List ℕ) → Verdict → Type 0
ComparesRun scene left left' verdict = (text : List ℕ) × IsReportOf scene text × Compares text left left' verdict

-- no scene was refused
abbrev pub IsUnrefused : Result Verdict AuditFault → Type 0
IsUnrefused (Ok verdict) = ⊤
IsUnrefused (Err (Scene fault)) = ⊥
IsUnrefused (Err ReadFault) = ⊤
IsUnrefused (Err NoMemory) = ⊤

-- the answer of an audit with this verdict, or with none
abbrev pub answer_of : Result Verdict NoVerdict → Result Verdict AuditFault
answer_of (Ok verdict) = Ok verdict
answer_of (Err Unread) = Err ReadFault
answer_of (Err Unfinished) = Err NoMemory

-- a run's report was written to its end
abbrev pub is_whole : Status → Bool
is_whole Done = true
is_whole SpeedLimit = true
is_whole RoundLimit = true
is_whole _ = false

-- the fault of an audit whose reading has this fault
abbrev pub IsAuditFaultOf : SceneFault → AuditFault → Type 0
IsAuditFaultOf fault (Scene other) = (other ≡ fault) × (fault ≢ reading.ReadFault) × (fault ≢ reading.NoMemory)
IsAuditFaultOf fault ReadFault = fault ≡ reading.ReadFault
IsAuditFaultOf fault NoMemory = fault ≡ reading.NoMemory
