-- What the parts of the program do is what the program answers.
use Rattle.std.proofs.Common.{[], ◌≡◌, ◌≢◌, ◌⊎◌, inl, inr, ℕ, List, ◌++◌, Option, Some, None, Ok, Err, ap, sym, subst, refl, ◌∙◌}
use Rattle.std.specs.Prelude.{IfSome}
use Rattle.std.specs.Io.KnownBytes.{Keeps}
use Rattle.report_ports.specs.Ports.{Rose, MayTake}
use Rattle.scene_reader.specs.declared.fault.SceneFault.{SceneFault}
use Rattle.scene_reader.specs.declared.fault.SceneFault.TheVariants.{TooLong, NotToml, UnknownKey, MissingKey, WrongType, Rules, BadEvery, TooManyDisks, BadRow, BadSize, Outside, TooFast, Overlap, ReadFault as SourceFailed, NoMemory as ReadNoMemory}
use Rattle.scene_reader.specs.Says.{says}
use Rattle.scene_reader.specs.Reads.{Reads, CountsReading}
use Rattle.scene_reader.specs.Laws.{IsSceneOrRefusal}
use Rattle.scene_reader.proofs.Least.{scene_or_refusal}
use Rattle.report_audit.specs.Parting.{rest_of, front_of_known}
use Rattle.report_audit.specs.declared.verdict.Verdict.{Verdict}
use Rattle.report_audit.specs.declared.verdict.Verdict.TheVariants.{Same, Line}
use Rattle.program_modes.specs.declared.status.Status.{Status}
use Rattle.program_modes.specs.declared.status.Status.TheVariants.{Done, BadWords, SceneRefused, SpeedLimit, RoundLimit, ReadFault, WriteFault, NoMemory, Wrong}
use Rattle.fixed_motion.specs.Scene.{SceneData, IsValidScene}
use Rattle.command_words.specs.declared.settings.Mode.{Mode}
use Rattle.command_words.specs.declared.settings.Mode.TheVariants.{Run, Plain, Check, Load, Cut, Audit}
use Rattle.command_words.specs.declared.settings.Settings.{Settings}
use Rattle.command_words.specs.Ranges.{AreInRange}
use Rattle.program_modes.specs.Refusals.{bad_words_line, refusal_line}
use Rattle.program_modes.specs.Output.{Input, IsOutput, OfMode, OfMade, Shows, IsShownRun}
use Rattle.program_modes.specs.Reports.{Reading, IsReadingOf}
use Rattle.program_modes.specs.Answers.{Answers, MayWrite, MayAnswer, IsInput, IsInputIn, Decides, Wrote, LeavesNothing, CountsReads, CountsWrites}
use Rattle.program_modes.specs.Shows.{WritesText, IsOfScene}
use Rattle.program_modes.specs.declared.auditing.AuditFault.{AuditFault}
use Rattle.program_modes.specs.declared.auditing.AuditFault.TheVariants as auditing
use Rattle.program_modes.specs.Audits.{IsAudit, IsAudited, IsRefusal, IsClaimedOf, IsAuditFaultOf, ReadsFront, CountsAudit}
use Rattle.program_modes.specs.Verdicts.{verdict_text, verdict_status, OfAudit}
use Rattle.command_words.specs.Words.{settings_of}
use Rattle.program_modes.specs.Laws.{PrefixesMayBeAsked}
use Rattle.program_modes.proofs.OneOutput.{one_of_settings, one_of_audit, words_in_range}
use Rattle.program_modes.proofs.Wrote.{IsOwn, as_wrote, wrote_text, wrote_nothing, kept}

-- a source's bytes say a scene or a refusal
pub some_reading : (left : Option (List ℕ)) → (said : Reading) × IsReadingOf left said
some_reading None = (Err TooLong, ((λ e. cc), (λ e. cc)))
some_reading (Some bytes) = (says bytes, refl)

pub reading_sound : (left : Option (List ℕ)) (said : Reading) → IsReadingOf left said → IsSceneOrRefusal said
reading_sound None said h = h
reading_sound (Some bytes) said h = subst IsSceneOrRefusal (sym h) (scene_or_refusal bytes)

some_claimed : (left : Option (List ℕ)) → (claimed : List ℕ) × IsClaimedOf left claimed
some_claimed None = ([], tt)
some_claimed (Some bytes) = (rest_of bytes, refl)

-- something is read in each mode
some_input_in : (mode : Mode) (left : Option (List ℕ)) → (input : Input) × IsInputIn mode left input
some_input_in Run left = let said = some_reading left in (record { said = said.0; claimed = [] }, said.1)
some_input_in Plain left = let said = some_reading left in (record { said = said.0; claimed = [] }, said.1)
some_input_in Check left = let said = some_reading left in (record { said = said.0; claimed = [] }, said.1)
some_input_in Load left = let said = some_reading left in (record { said = said.0; claimed = [] }, said.1)
some_input_in Cut left = let said = some_reading left in (record { said = said.0; claimed = [] }, said.1)
some_input_in Audit left =
    let said = some_reading (front_of_known left) in
    let claimed = some_claimed left in
    (record { said = said.0; claimed = claimed.0 }, (said.1, claimed.1))

some_input : (settings : Option Settings) (left : Option (List ℕ)) → (input : Input) × IsInput settings left input
some_input None left = let said = some_reading left in (record { said = said.0; claimed = [] }, said.1)
some_input (Some settings) left = some_input_in settings.mode left

sound_in : (mode : Mode) (left : Option (List ℕ)) (input : Input) → IsInputIn mode left input → IsSceneOrRefusal input.said
sound_in Run left input h = reading_sound left input.said h
sound_in Plain left input h = reading_sound left input.said h
sound_in Check left input h = reading_sound left input.said h
sound_in Load left input h = reading_sound left input.said h
sound_in Cut left input h = reading_sound left input.said h
sound_in Audit left input h = reading_sound (front_of_known left) input.said h.0

pub input_sound : (settings : Option Settings) (left : Option (List ℕ)) (input : Input) → IsInput settings left input → IsSceneOrRefusal input.said
input_sound None left input h = reading_sound left input.said h
input_sound (Some settings) left input h = sound_in settings.mode left input h

-- in each mode but one, what all bytes say is read
abbrev whole : Reading → Input
whole said = record { said = said; claimed = [] }

whole_in : (mode : Mode) → mode ≢ Audit → (left : Option (List ℕ)) (said : Reading) → IsReadingOf left said → IsInputIn mode left (whole said)
whole_in Run other left said h = h
whole_in Plain other left said h = h
whole_in Check other left said h = h
whole_in Load other left said h = h
whole_in Cut other left said h = h
whole_in Audit other left said h = absurd (other refl)

-- a refusal of a source is what its bytes say
read_fault_of : (left left' : Option (List ℕ)) (f : SceneFault) → f ≢ SourceFailed → f ≢ ReadNoMemory → Reads left left' (Err f) → IsReadingOf left (Err f)
read_fault_of None left' f failed memory h = (failed, memory)
read_fault_of (Some bytes) None f failed memory h = absurd h
read_fault_of (Some bytes) (Some rest) f failed memory h = h.1.said (λ e. failed (cc)) (λ e. memory (cc))

pub fault_cases : (f : SceneFault) → (f ≡ SourceFailed) ⊎ ((f ≡ ReadNoMemory) ⊎ ((f ≢ SourceFailed) × (f ≢ ReadNoMemory)))
fault_cases SourceFailed = inl refl
fault_cases ReadNoMemory = inr (inl refl)
fault_cases TooLong = inr (inr ((λ e. cc), (λ e. cc)))
fault_cases NotToml = inr (inr ((λ e. cc), (λ e. cc)))
fault_cases (UnknownKey key) = inr (inr ((λ e. cc), (λ e. cc)))
fault_cases (MissingKey key) = inr (inr ((λ e. cc), (λ e. cc)))
fault_cases (WrongType key) = inr (inr ((λ e. cc), (λ e. cc)))
fault_cases (Rules fault) = inr (inr ((λ e. cc), (λ e. cc)))
fault_cases BadEvery = inr (inr ((λ e. cc), (λ e. cc)))
fault_cases (TooManyDisks n) = inr (inr ((λ e. cc), (λ e. cc)))
fault_cases (BadRow i) = inr (inr ((λ e. cc), (λ e. cc)))
fault_cases (BadSize i) = inr (inr ((λ e. cc), (λ e. cc)))
fault_cases (Outside i) = inr (inr ((λ e. cc), (λ e. cc)))
fault_cases (TooFast i) = inr (inr ((λ e. cc), (λ e. cc)))
fault_cases (Overlap i j) = inr (inr ((λ e. cc), (λ e. cc)))

-- nothing was written, since memory ran out
pub out_of_memory : (settings : Option Settings) → IfSome settings AreInRange → (left taken taken' : Option (List ℕ)) → Keeps taken taken' →
    Answers settings left taken taken' NoMemory
out_of_memory settings ranges left taken taken' h =
    let input = some_input settings left in
    let one = one_of_settings settings ranges input.0 (input_sound settings left input.0 input.1) in
    (input.0, input.1, wrote_nothing (IsOutput settings input.0) one.0 one.1 taken taken' one.2 h)

-- in each mode that reads a scene a refusal's output is its line
refusal : (mode : Mode) → mode ≢ Load → (settings : Settings) (f : SceneFault) (claimed : List ℕ) →
    OfMode mode settings (record { said = Err f; claimed = claimed }) (refusal_line f) SceneRefused
refusal Run reads settings f claimed = (refl, refl)
refusal Plain reads settings f claimed = (refl, refl)
refusal Check reads settings f claimed = (refl, refl)
refusal Cut reads settings f claimed = (refl, refl)
refusal Audit reads settings f claimed = (refl, refl)
refusal Load reads settings f claimed = absurd (reads refl)

-- a scene was refused, the source failed, or memory ran out
pub fault_answered : (settings : Settings) → AreInRange settings → settings.mode ≢ Load → settings.mode ≢ Audit →
    (left left' taken taken' : Option (List ℕ)) (f : SceneFault) (status : Status) → Reads left left' (Err f) →
    (f ≡ SourceFailed → (status ≡ ReadFault) × Keeps taken taken') → (f ≡ ReadNoMemory → (status ≡ NoMemory) × Keeps taken taken') →
    (f ≢ SourceFailed → f ≢ ReadNoMemory → WritesText (refusal_line f) SceneRefused taken taken' status) → Answers (Some settings) left taken taken' status
fault_answered settings ranges mode other left left' taken taken' f status reads failed wanting line = elim (fault_cases f) [
  | inl source ↦
      let input = some_input (Some settings) left in
      subst (Answers (Some settings) left taken taken') (sym (failed source).0) (input.0, input.1, (failed source).1)
  | inr others ↦ elim others [
    | inl memory ↦ subst (Answers (Some settings) left taken taken') (sym (wanting memory).0)
        (out_of_memory (Some settings) ranges left taken taken' (wanting memory).1)
    | inr neither ↦ (
      whole (Err f),
      whole_in settings.mode other left (Err f) (read_fault_of left left' f neither.0 neither.1 reads),
      wrote_text (IsOutput (Some settings) (whole (Err f))) (refusal_line f) SceneRefused taken taken' status tt
          (refusal settings.mode mode settings f []) (line neither.0 neither.1),
    )
  ]
]

pub bad_words_answered : (left taken taken' : Option (List ℕ)) (status : Status) → WritesText bad_words_line BadWords taken taken' status →
    Answers None left taken taken' status
bad_words_answered left taken taken' status h =
    let input = some_input None left in
    (input.0, input.1, wrote_text (IsOutput None input.0) bad_words_line BadWords taken taken' status tt (refl, refl) h)

-- in each mode that only reads a scene, its output is what the mode shows of it
of_scene : (mode : Mode) → mode ≢ Load → mode ≢ Audit → (settings : Settings) (scene : SceneData) (text : List ℕ) (status : Status) →
    Shows mode settings scene text status → OfMode mode settings (whole (Ok scene)) text status
of_scene Run reads other settings scene text status h = h
of_scene Plain reads other settings scene text status h = h
of_scene Check reads other settings scene text status h = h
of_scene Cut reads other settings scene text status h = h
of_scene Load reads other settings scene text status h = absurd (reads refl)
of_scene Audit reads other settings scene text status h = absurd (other refl)

-- the scene was read, and what the mode shows of it was written
pub scene_answered : (settings : Settings) → settings.mode ≢ Load → settings.mode ≢ Audit → (left taken taken' : Option (List ℕ))
    (scene : SceneData) (status : Status) →
    IsReadingOf left (Ok scene) → Wrote (Shows settings.mode settings scene) taken taken' status →
    Answers (Some settings) left taken taken' status
scene_answered settings mode other left taken taken' scene status said wrote = (
  whole (Ok scene),
  whole_in settings.mode other left (Ok scene) said,
  as_wrote _ (IsOutput (Some settings) (whole (Ok scene))) (of_scene settings.mode mode other settings scene) taken taken' status wrote,
)

-- if known bytes say a scene, nothing is left of them
pub nothing_left : (left left' : Option (List ℕ)) (scene : SceneData) (status : Status) → Reads left left' (Ok scene) → LeavesNothing left left' status
nothing_left None left' scene status h = tt
nothing_left (Some bytes) None scene status h = absurd h
nothing_left (Some bytes) (Some rest) scene status h = by_status status (ap Some (h.1.whole (λ e. cc) (λ e. cc) (λ e. cc)))
  where
    by_status : (s : Status) → Some rest ≡ Some [] → LeavesNothing (Some bytes) (Some rest) s
    by_status Done e = e
    by_status BadWords e = tt
    by_status SceneRefused e = tt
    by_status SpeedLimit e = e
    by_status RoundLimit e = e
    by_status ReadFault e = tt
    by_status WriteFault e = tt
    by_status NoMemory e = tt
    by_status Wrong e = tt

-- a reading that gave a scene counted no fault
pub scene_counts : (before after : ℕ) (scene : SceneData) → CountsReading before after (Ok scene) → after ≡ before
scene_counts before after scene h = h.other (λ e. cc)

-- after a reading that counted no fault
pub scene_reads : (before after : ℕ) (status : Status) → IsOfScene status → after ≡ before → CountsReads before after status
scene_reads before after Done is e = e
scene_reads before after BadWords is e = absurd is
scene_reads before after SceneRefused is e = e
scene_reads before after SpeedLimit is e = e
scene_reads before after RoundLimit is e = e
scene_reads before after ReadFault is e = absurd is
scene_reads before after WriteFault is e = e
scene_reads before after NoMemory is e = e
scene_reads before after Wrong is e = e

-- if a text with its own status was written after it
own_reads : (before after : ℕ) (own : Status) → IsOwn own → after ≡ before → CountsReads before after own
own_reads before after Done is e = e
own_reads before after BadWords is e = e
own_reads before after SceneRefused is e = e
own_reads before after SpeedLimit is e = e
own_reads before after RoundLimit is e = e
own_reads before after ReadFault is e = absurd is
own_reads before after WriteFault is e = absurd is
own_reads before after NoMemory is e = absurd is
own_reads before after Wrong is e = e

pub text_reads : (before after : ℕ) (text : List ℕ) (own status : Status) (taken taken' : Option (List ℕ)) → IsOwn own →
    WritesText text own taken taken' status → after ≡ before → CountsReads before after status
text_reads before after text own status taken taken' is h e = elim h [
  | inl all ↦ subst (CountsReads before after) (sym all.0) (own_reads before after own is e)
  | inr part ↦ subst (CountsReads before after) (sym part.0) e
]

-- for an audit, a fault of a reading is a refusal, the source's failure, or memory that ran out
pub fault_audited : (left left' : Option (List ℕ)) (f : SceneFault) (fault : AuditFault) → Reads left left' (Err f) → IsAuditFaultOf f fault →
    ReadsFront left left' (Err fault)
fault_audited left left' f (auditing.Scene other) reads is =
    subst (IsRefusal left) (sym is.0) (read_fault_of left left' f is.1 is.2 reads, is.1, is.2)
fault_audited left left' f auditing.ReadFault reads is = tt
fault_audited left left' f auditing.NoMemory reads is = tt

pub fault_counted : (before after : ℕ) (f : SceneFault) (fault : AuditFault) → CountsReading {A = SceneData} before after (Err f) →
    IsAuditFaultOf f fault → CountsAudit {A = SceneData} before after (Err fault)
fault_counted before after f (auditing.Scene other) counts is = counts.other (λ e. is.1 (cc))
fault_counted before after f auditing.ReadFault counts is = counts.failed (ap Err is)
fault_counted before after f auditing.NoMemory counts is = counts.other (λ e. cc)

-- after a reading that gave no scene
pub fault_reads : (before after : ℕ) (taken taken' : Option (List ℕ)) (f : SceneFault) (status : Status) →
    CountsReading {A = SceneData} before after (Err f) → (f ≡ SourceFailed → (status ≡ ReadFault) × Keeps taken taken') →
    (f ≡ ReadNoMemory → (status ≡ NoMemory) × Keeps taken taken') →
    (f ≢ SourceFailed → f ≢ ReadNoMemory → WritesText (refusal_line f) SceneRefused taken taken' status) → CountsReads before after status
fault_reads before after taken taken' f status counts failed wanting line = elim (fault_cases f) [
  | inl source ↦ subst (CountsReads before after) (sym (failed source).0) (counts.failed (ap Err source))
  | inr others ↦ elim others [
    | inl memory ↦ subst (CountsReads before after) (sym (wanting memory).0) (counts.other (λ e. cc))
    | inr neither ↦ text_reads before after (refusal_line f) SceneRefused status taken taken' tt (line neither.0 neither.1)
        (counts.other (λ e. neither.0 (cc)))
  ]
]

-- bytes that say a scene: what they say, and that nothing is left of them
pub scene_reading : (left left' : Option (List ℕ)) (scene : SceneData) → IsValidScene scene → Reads left left' (Ok scene) → IsReadingOf left (Ok scene)
scene_reading None left' scene valid h = valid
scene_reading (Some bytes) None scene valid h = absurd h
scene_reading (Some bytes) (Some rest) scene valid h = h.1.said (λ e. cc) (λ e. cc)

pub read_whole : (left left' : Option (List ℕ)) (scene : SceneData) → Reads left left' (Ok scene) → (bytes : List ℕ) → left ≡ Some bytes → left' ≡ Some []
read_whole None left' scene h bytes e = absurd (cc)
read_whole (Some all) None scene h bytes e = absurd h
read_whole (Some all) (Some rest) scene h bytes e = ap Some (h.1.whole (λ e. cc) (λ e. cc) (λ e. cc))

-- a scene was made, and what is shown of it was written
pub made_answered : (settings : Settings) → settings.mode ≡ Load → (left taken taken' : Option (List ℕ)) (status : Status) →
    Wrote (OfMade settings.number settings.disks (IsShownRun settings.format settings.margin)) taken taken' status → Answers (Some settings) left taken taken' status
made_answered settings mode left taken taken' status wrote =
    let input = some_input (Some settings) left in
    (input.0, input.1, subst (λ (m : Mode). Wrote (OfMode m settings input.0) taken taken' status) (sym mode) wrote)

-- ---- audits
audit_answered : (settings : Settings) → settings.mode ≡ Audit → (left taken taken' : Option (List ℕ)) (status : Status)
    (said : Reading) (claimed : List ℕ) → IsReadingOf (front_of_known left) said → IsClaimedOf left claimed →
    Wrote (OfAudit said claimed) taken taken' status → Answers (Some settings) left taken taken' status
audit_answered settings mode left taken taken' status said claimed read claims wrote =
    let input : Input = record { said = said; claimed = claimed } in (
      input,
      subst (λ (m : Mode). IsInputIn m left input) (sym mode) (read, claims),
      subst (λ (m : Mode). Wrote (OfMode m settings input) taken taken' status) (sym mode) wrote,
    )

pub own_verdict : (v : Verdict) → IsOwn (verdict_status v)
own_verdict (Same lines) = tt
own_verdict (Line number expected) = tt

pub verdict_answered : (settings : Settings) → settings.mode ≡ Audit → (left taken taken' : Option (List ℕ)) (v : Verdict)
    (text : List ℕ) (own status : Status) → text ≡ verdict_text v → own ≡ verdict_status v → IsAudited left v →
    WritesText text own taken taken' status → Answers (Some settings) left taken taken' status
verdict_answered settings mode left taken taken' v text own status e f (scene, shown, claimed, read, keeps, claims, is) h =
    audit_answered settings mode left taken taken' status (Ok scene) claimed read claims
    (wrote_text (OfAudit (Ok scene) claimed) text own taken taken' status (subst IsOwn (sym f) (own_verdict v))
    (shown, v, keeps, is, e, f) h)

pub refusal_answered : (settings : Settings) → settings.mode ≡ Audit → (left taken taken' : Option (List ℕ)) (fault : SceneFault)
    (text : List ℕ) (status : Status) → text ≡ refusal_line fault → IsRefusal (front_of_known left) fault →
    WritesText text SceneRefused taken taken' status → Answers (Some settings) left taken taken' status
refusal_answered settings mode left taken taken' fault text status e refused h =
    let claimed = some_claimed left in
    audit_answered settings mode left taken taken' status (Err fault) claimed.0 refused.0 claimed.1
    (wrote_text (OfAudit (Err fault) claimed.0) text SceneRefused taken taken' status tt (e, refl) h)

pub unread_answered : (settings : Settings) → settings.mode ≡ Audit → (left taken : Option (List ℕ)) →
    Answers (Some settings) left taken taken ReadFault
unread_answered settings mode left taken =
    let said = some_reading (front_of_known left) in
    let claimed = some_claimed left in
    audit_answered settings mode left taken taken ReadFault said.0 claimed.0 said.1 claimed.1 (kept taken)

pub memory_answered : (settings : Settings) → settings.mode ≡ Audit → (left taken : Option (List ℕ)) →
    Answers (Some settings) left taken taken NoMemory
memory_answered settings mode left taken =
    let said = some_reading (front_of_known left) in
    let claimed = some_claimed left in
    let one = one_of_audit said.0 claimed.0 (reading_sound (front_of_known left) said.0 said.1) in
    audit_answered settings mode left taken taken NoMemory said.0 claimed.0 said.1 claimed.1
    (wrote_nothing (OfAudit said.0 claimed.0) one.0 one.1 taken taken one.2 (kept taken))

-- ---- one output decides
-- what is read decides the output, or none is read
abbrev DecidesIn : Mode → Option (List ℕ) → Input → Type 0
DecidesIn mode None input = ¬ (mode ≢ Load)
DecidesIn mode (Some bytes) input = mode ≢ Load → IsInputIn mode (Some bytes) input

-- an output for one thing that is read is one for another, if the two are the same or none is read
of_other : (mode : Mode) (settings : Settings) (left : Option (List ℕ)) (input other : Input) → IsInputIn mode left other →
    DecidesIn mode left input → (text : List ℕ) (own : Status) → OfMode mode settings input text own → OfMode mode settings other text own
of_other Run settings None input other is decides text own h = absurd (decides (λ e. cc))
of_other Run settings (Some bytes) input other is decides text own h =
    let same : input.said ≡ other.said = decides (λ e. cc) ∙ sym is in
    subst (λ (v : Reading). OfMode Run settings (record { said = v; claimed = other.claimed }) text own) same h
of_other Plain settings None input other is decides text own h = absurd (decides (λ e. cc))
of_other Plain settings (Some bytes) input other is decides text own h =
    let same : input.said ≡ other.said = decides (λ e. cc) ∙ sym is in
    subst (λ (v : Reading). OfMode Plain settings (record { said = v; claimed = other.claimed }) text own) same h
of_other Check settings None input other is decides text own h = absurd (decides (λ e. cc))
of_other Check settings (Some bytes) input other is decides text own h =
    let same : input.said ≡ other.said = decides (λ e. cc) ∙ sym is in
    subst (λ (v : Reading). OfMode Check settings (record { said = v; claimed = other.claimed }) text own) same h
of_other Cut settings None input other is decides text own h = absurd (decides (λ e. cc))
of_other Cut settings (Some bytes) input other is decides text own h =
    let same : input.said ≡ other.said = decides (λ e. cc) ∙ sym is in
    subst (λ (v : Reading). OfMode Cut settings (record { said = v; claimed = other.claimed }) text own) same h
of_other Load settings left input other is decides text own h = h
of_other Audit settings None input other is decides text own h = absurd (decides (λ e. cc))
of_other Audit settings (Some bytes) input other is decides text own h =
    let here = decides (λ e. cc) in
    let said : input.said ≡ other.said = here.0 ∙ sym is.0 in
    let claimed : input.claimed ≡ other.claimed = here.1 ∙ sym is.1 in
    subst (λ (v : List ℕ). OfAudit other.said v text own) claimed
    (subst (λ (v : Reading). OfAudit v input.claimed text own) said h)

decides_in : (settings : Settings) (left : Option (List ℕ)) (input : Input) → Decides (Some settings) left input →
    DecidesIn settings.mode left input
decides_in settings None input h = h
decides_in settings (Some bytes) input h = h

-- the outputs of two inputs that are decided are one
own_status : (settings : Option Settings) → IfSome settings AreInRange → (left : Option (List ℕ)) (input other : Input) (text line : List ℕ) (own status : Status) →
    IsInput settings left other → Decides settings left input → IsOutput settings input text own → IsOutput settings other line status → status ≡ own
own_status None ranges left input other text line own status is decides h k = k.1 ∙ sym h.1
own_status (Some settings) ranges left input other text line own status is decides h k =
    let one = one_of_settings (Some settings) ranges other (input_sound (Some settings) left other is) in
    let here = of_other settings.mode settings left input other is (decides_in settings left input decides) text own h in
    (one.3 line status k).1 ∙ sym (one.3 text own here).1

-- if neither count rose, the status is the output's own, or memory ran out
pub completed : (settings : Option Settings) → IfSome settings AreInRange → (left taken taken' : Option (List ℕ)) (reads reads' writes writes' : ℕ) (status : Status) →
    Answers settings left taken taken' status → CountsReads reads reads' status → CountsWrites writes writes' status →
    (input : Input) (text : List ℕ) (own : Status) → Decides settings left input → IsOutput settings input text own → ¬ Rose reads reads' → ¬ Rose writes writes' →
    (status ≡ own) ⊎ (status ≡ NoMemory)
completed settings ranges left taken taken' reads reads' writes writes' status h r w input text own decides of kept still = by_status status h r w
  where
    as_own : (s : Status) (h : Answers settings left taken taken' s) (line : List ℕ) → IsOutput settings h.0 line s → (s ≡ own) ⊎ (s ≡ NoMemory)
    as_own s h line k = inl (own_status settings ranges left input h.0 text line own s h.1 decides of k)

    by_status : (s : Status) → Answers settings left taken taken' s → CountsReads reads reads' s → CountsWrites writes writes' s → (s ≡ own) ⊎ (s ≡ NoMemory)
    by_status Done h r w = as_own Done h h.2.0 h.2.1
    by_status BadWords h r w = as_own BadWords h h.2.0 h.2.1
    by_status SceneRefused h r w = as_own SceneRefused h h.2.0 h.2.1
    by_status SpeedLimit h r w = as_own SpeedLimit h h.2.0 h.2.1
    by_status RoundLimit h r w = as_own RoundLimit h h.2.0 h.2.1
    by_status ReadFault h r w = absurd (kept r.1)
    by_status WriteFault h r w = absurd (still w.1)
    by_status NoMemory h r w = inr refl
    by_status Wrong h r w = as_own Wrong h h.2.0 h.2.1

-- ---- what may be written
-- of a scene that is read
scene_in : (mode : Mode) → mode ≢ Load → mode ≢ Audit → (settings : Settings) (scene : SceneData) (text : List ℕ) (own : Status) →
    Shows mode settings scene text own → OfMode mode settings (whole (Ok scene)) text own
scene_in Run reads other settings scene text own h = h
scene_in Plain reads other settings scene text own h = h
scene_in Check reads other settings scene text own h = h
scene_in Cut reads other settings scene text own h = h
scene_in Load reads other settings scene text own h = absurd (reads refl)
scene_in Audit reads other settings scene text own h = absurd (other refl)

pub scene_may : (settings : Settings) → settings.mode ≢ Load → settings.mode ≢ Audit → (left : Option (List ℕ)) (allows : List ℕ → Type 0)
    (taken : Option (List ℕ)) (scene : SceneData) → IsReadingOf left (Ok scene) → MayAnswer (Some settings) left allows taken →
    MayWrite (Shows settings.mode settings scene) allows taken
scene_may settings reads other left allows taken scene reading may text own h =
    may (whole (Ok scene)) (whole_in settings.mode other left (Ok scene) reading) text own (scene_in settings.mode reads other settings scene text own h)

-- of a scene that is refused
pub refusal_may : (settings : Settings) → settings.mode ≢ Load → settings.mode ≢ Audit → (left left' : Option (List ℕ)) (allows : List ℕ → Type 0)
    (taken : Option (List ℕ)) (f : SceneFault) → Reads left left' (Err f) → MayAnswer (Some settings) left allows taken →
    f ≢ SourceFailed → f ≢ ReadNoMemory → MayTake allows taken (refusal_line f)
refusal_may settings reads other left left' allows taken f read may failed memory =
    may (whole (Err f)) (whole_in settings.mode other left (Err f) (read_fault_of left left' f failed memory read)) (refusal_line f) SceneRefused
    (refusal settings.mode reads settings f [])

-- of a scene that is made
pub made_may : (settings : Settings) → settings.mode ≡ Load → (left : Option (List ℕ)) (allows : List ℕ → Type 0) (taken : Option (List ℕ)) →
    MayAnswer (Some settings) left allows taken → MayWrite (OfMade settings.number settings.disks (IsShownRun settings.format settings.margin)) allows taken
made_may settings is left allows taken may text own h =
    let input = some_input (Some settings) left in
    may input.0 input.1 text own (subst (λ (mode : Mode). OfMode mode settings input.0 text own) (sym is) h)

-- of an audit
pub audit_may : (settings : Settings) → settings.mode ≡ Audit → (left : Option (List ℕ)) (allows : List ℕ → Type 0) (taken : Option (List ℕ)) →
    MayAnswer (Some settings) left allows taken → (input : Input) → IsInputIn Audit left input → MayWrite (OfAudit input.said input.claimed) allows taken
audit_may settings is left allows taken may input h text own of =
    may input (subst (λ (mode : Mode). IsInputIn mode left input) (sym is) h) text own
    (subst (λ (mode : Mode). OfMode mode settings input text own) (sym is) of)

pub verdict_may : (left : Option (List ℕ)) (allows : List ℕ → Type 0) (taken : Option (List ℕ)) (verdict : Verdict) (text : List ℕ) → text ≡ verdict_text verdict →
    IsAudit left (Ok verdict) → ((input : Input) → IsInputIn Audit left input → MayWrite (OfAudit input.said input.claimed) allows taken) →
    MayTake allows taken text
verdict_may left allows taken verdict text e h may =
    may (record { said = Ok h.0; claimed = h.2 }) (h.3, h.5) text (verdict_status verdict) (h.1, verdict, h.4, h.6, e, refl)

pub unaudited_may : (left : Option (List ℕ)) (allows : List ℕ → Type 0) (taken : Option (List ℕ)) (f : SceneFault) (text : List ℕ) → text ≡ refusal_line f →
    IsAudit left (Err (auditing.Scene f)) → ((input : Input) → IsInputIn Audit left input → MayWrite (OfAudit input.said input.claimed) allows taken) →
    MayTake allows taken text
unaudited_may left allows taken f text e h may =
    let claimed = some_claimed left in
    may (record { said = Err f; claimed = claimed.0 }) (h.0, claimed.1) text SceneRefused (e, refl)

-- of words that have no settings
pub words_may : (left : Option (List ℕ)) (allows : List ℕ → Type 0) (taken : Option (List ℕ)) → MayAnswer None left allows taken →
    MayTake allows taken bad_words_line
words_may left allows taken may =
    let input = some_input None left in may input.0 input.1 bad_words_line BadWords (refl, refl)

-- two inputs of the same bytes have the same output
pub same_output : (settings : Option Settings) (bytes : List ℕ) (input other : Input) (text : List ℕ) (own : Status) → IsInput settings (Some bytes) input →
    IsInput settings (Some bytes) other → IsOutput settings input text own → IsOutput settings other text own
same_output None bytes input other text own is also h = h
same_output (Some settings) bytes input other text own is also h =
    of_other settings.mode settings (Some bytes) input other also (decides_in settings (Some bytes) input (λ reads. is)) text own h

-- so prefixes of it may be asked for
pub prefixes_may : PrefixesMayBeAsked
prefixes_may words bytes input text own is of other also line status has seen front rest known e some =
    let settings = settings_of words in
    let one = one_of_settings settings (words_in_range words) other (input_sound settings (Some bytes) other also) in
    let same : line ≡ text = (one.3 line status has).0 ∙ sym (one.3 text own (same_output settings bytes input other text own is also of)).0 in
    let none : [] ≡ seen = cc in
    (rest, sym same ∙ e ∙ ap (λ (v : List ℕ). (v ++ front) ++ rest) none)
