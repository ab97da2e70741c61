-- What the parts of the program publish is what the program publishes.
use Rattle.std.proofs.Common.{◌≡◌, ◌≢◌, inl, inr, ℕ, List, [], ◌++◌, append-nil, Option, Some, None, Ok, Err, sym, ap, subst, refl, ◌∙◌}
use Rattle.std.specs.Prelude.{IfSome, ⊤}
use Rattle.fixed_motion.specs.Scene.{SceneData, IsValidScene}
use Rattle.event_rules.specs.declared.outcome.Outcome.{Outcome}
use Rattle.event_rules.specs.declared.outcome.RunFault.{RunFault}
use Rattle.event_rules.specs.declared.outcome.RunFault.TheVariants.{Listener, NoMemory as RunNoMemory}
use Rattle.event_rules.specs.declared.outcome.Outcome.TheVariants.{Done as DoneOutcome, Limit as Passes}
use Rattle.event_rules.specs.declared.change.Limit.TheVariants.{Rounds, Speed}
use Rattle.event_rules.proofs.Exists.{each_scene_runs}
use Rattle.scene_reader.specs.declared.fault.SceneFault.{SceneFault}
use Rattle.scene_reader.specs.declared.fault.SceneFault.TheVariants.{ReadFault as SourceFailed, NoMemory as ReadNoMemory}
use Rattle.scene_reader.specs.Laws.{IsSceneOrRefusal}
use Rattle.scene_maker.proofs.Scenes.{one_scene}
use Rattle.command_words.specs.declared.settings.Mode.{Mode}
use Rattle.command_words.specs.declared.settings.Mode.TheVariants.{Run, Plain, Check, Load, Cut, Audit}
use Rattle.command_words.specs.declared.settings.Settings.{Settings}
use Rattle.command_words.specs.Ranges.{AreInRange}
use Rattle.live_progress.specs.declared.board.Progress.{Progress}
use Rattle.live_progress.specs.Lists.{StartsWith}
use Rattle.live_progress.specs.Watching.{pairs_of}
use Rattle.program_modes.specs.declared.status.Status.{Status}
use Rattle.program_modes.specs.declared.status.Status.TheVariants.{Done, BadWords, SceneRefused, SpeedLimit, RoundLimit, ReadFault, WriteFault, NoMemory, Wrong}
use Rattle.program_modes.specs.Refusals.{refusal_line}
use Rattle.program_modes.specs.Reports.{Reading, IsReadingOf, status_of}
use Rattle.report_audit.specs.declared.verdict.Verdict.{Verdict}
use Rattle.report_audit.specs.declared.verdict.Verdict.TheVariants.{Same, Line}
use Rattle.program_modes.specs.Audits.{Empties}
use Rattle.program_modes.specs.Answers.{LeavesNothing}
use Rattle.program_modes.specs.Verdicts.{verdict_status}
use Rattle.program_modes.specs.Shows.{WritesText, status_of_fault}
use Rattle.program_modes.specs.Publishes.{PublishesPairs, PublishesRun, PublishesShown, PublishesRead, PublishesMade, PublishesIn, Publishes}
use Rattle.program_modes.proofs.Answered.{some_reading, reading_sound, fault_cases}

-- a status that says that no run came to its end
abbrev pub IsCut : Status → Type 0
IsCut Done = ⊥
IsCut BadWords = ⊤
IsCut SceneRefused = ⊤
IsCut SpeedLimit = ⊥
IsCut RoundLimit = ⊥
IsCut ReadFault = ⊤
IsCut WriteFault = ⊤
IsCut NoMemory = ⊤
IsCut Wrong = ⊤

-- all pairs, after a run to its end
all_published : (outcome : Outcome) (pairs list : List Progress) → list ≡ pairs → PublishesPairs pairs (status_of outcome) list
all_published (DoneOutcome spots) pairs list h = h
all_published (Passes (Speed s)) pairs list h = h
all_published (Passes (Rounds s)) pairs list h = h

-- and whatever is said of the run, they begin with them
all_begun : (list pairs : List Progress) → list ≡ pairs → StartsWith pairs list
all_begun list pairs h = ([], sym h ∙ sym (append-nil list))

-- they do so if the end of the report was written, or a part of it
pub ended_published : (outcome : Outcome) (text : List ℕ) (taken taken' : Option (List ℕ)) (status : Status) (pairs list : List Progress) →
    WritesText text (status_of outcome) taken taken' status → list ≡ pairs → PublishesPairs pairs status list
ended_published outcome text taken taken' status pairs list h e = elim h [
  | inl all ↦ subst (λ (s : Status). PublishesPairs pairs s list) (sym all.0) (all_published outcome pairs list e)
  | inr part ↦ subst (λ (s : Status). PublishesPairs pairs s list) (sym part.0) (all_begun list pairs e)
]

-- and if the run broke off
pub broken_published : (fault : RunFault) (pairs list : List Progress) → StartsWith pairs list → PublishesPairs pairs (status_of_fault fault) list
broken_published Listener pairs list h = h
broken_published RunNoMemory pairs list h = h

-- nothing was published: a prefix of the pairs of any run
none_published : (pairs list : List Progress) (status : Status) → IsCut status → list ≡ [] → PublishesPairs pairs status list
none_published pairs list status cut none = by_status status cut
  where
    begun : StartsWith pairs list
    begun = (pairs, sym (ap (λ (l : List Progress). l ++ pairs) none))

    by_status : (status : Status) → IsCut status → PublishesPairs pairs status list
    by_status Done cut = absurd cut
    by_status BadWords cut = begun
    by_status SceneRefused cut = begun
    by_status SpeedLimit cut = absurd cut
    by_status RoundLimit cut = absurd cut
    by_status ReadFault cut = none
    by_status WriteFault cut = begun
    by_status NoMemory cut = begun
    by_status Wrong cut = begun

pub run_unpublished : (scene : SceneData) (status : Status) (list : List Progress) → IsValidScene scene → IsCut status → list ≡ [] → PublishesRun scene status list
run_unpublished scene status list valid cut none =
    let run = each_scene_runs scene valid in
    (run.0, run.1, run.2, none_published (pairs_of run.0) list status cut none)

shown_unpublished : (mode : Mode) (scene : SceneData) (status : Status) (list : List Progress) → IsValidScene scene → IsCut status → list ≡ [] →
    PublishesShown mode scene status list
shown_unpublished Run scene status list valid cut none = run_unpublished scene status list valid cut none
shown_unpublished Plain scene status list valid cut none = run_unpublished scene status list valid cut none
shown_unpublished Check scene status list valid cut none = none
shown_unpublished Load scene status list valid cut none = run_unpublished scene status list valid cut none
shown_unpublished Cut scene status list valid cut none = none
shown_unpublished Audit scene status list valid cut none = none

read_unpublished : (mode : Mode) (said : Reading) (status : Status) (list : List Progress) → IsSceneOrRefusal said → IsCut status → list ≡ [] →
    PublishesRead mode said status list
read_unpublished mode (Ok scene) status list valid cut none = shown_unpublished mode scene status list valid cut none
read_unpublished mode (Err fault) status list valid cut none = none

pub made_unpublished : (settings : Settings) → AreInRange settings → (status : Status) (list : List Progress) → IsCut status → list ≡ [] →
    PublishesMade settings.number settings.disks status list
made_unpublished settings ranges status list cut none =
    let made = one_scene settings.number settings.disks ranges.few_disks in
    (made.0, made.1, run_unpublished made.0 status list made.2 cut none)

in_unpublished : (mode : Mode) (settings : Settings) → AreInRange settings → (said : Reading) (status : Status) (list : List Progress) →
    IsSceneOrRefusal said → IsCut status → list ≡ [] → PublishesIn mode settings said status list
in_unpublished Run settings ranges said status list sound cut none = read_unpublished Run said status list sound cut none
in_unpublished Plain settings ranges said status list sound cut none = read_unpublished Plain said status list sound cut none
in_unpublished Check settings ranges said status list sound cut none = read_unpublished Check said status list sound cut none
in_unpublished Load settings ranges said status list sound cut none = made_unpublished settings ranges status list cut none
in_unpublished Cut settings ranges said status list sound cut none = read_unpublished Cut said status list sound cut none
in_unpublished Audit settings ranges said status list sound cut none = none

pub unpublished : (settings : Option Settings) → IfSome settings AreInRange → (left : Option (List ℕ)) (status : Status) (list : List Progress) →
    IsCut status → list ≡ [] → Publishes settings left status list
unpublished None ranges left status list cut none = none
unpublished (Some settings) ranges left status list cut none =
    let said = some_reading left in
    (said.0, said.1, in_unpublished settings.mode settings ranges said.0 status list (reading_sound left said.0 said.1) cut none)

-- after the line of a refusal there was no run
pub line_cut : (text : List ℕ) (status : Status) (taken taken' : Option (List ℕ)) → WritesText text SceneRefused taken taken' status → IsCut status
line_cut text status taken taken' h = elim h [
  | inl all ↦ subst IsCut (sym all.0) tt
  | inr part ↦ subst IsCut (sym part.0) tt
]

-- after a refusal there was no run
pub refusal_cut : (f : SceneFault) (status : Status) (taken taken' : Option (List ℕ)) → (f ≡ SourceFailed → status ≡ ReadFault) →
    (f ≡ ReadNoMemory → status ≡ NoMemory) →
    (f ≢ SourceFailed → f ≢ ReadNoMemory → WritesText (refusal_line f) SceneRefused taken taken' status) → IsCut status
refusal_cut f status taken taken' failed wanting line = elim (fault_cases f) [
  | inl source ↦ subst IsCut (sym (failed source)) tt
  | inr other ↦ elim other [
    | inl memory ↦ subst IsCut (sym (wanting memory)) tt
    | inr neither ↦ line_cut (refusal_line f) status taken taken' (line neither.0 neither.1)
  ]
]

-- if no run came to its end, nothing is said of what the source has left
pub cut_leaves : (left left' : Option (List ℕ)) (status : Status) → IsCut status → LeavesNothing left left' status
cut_leaves None left' status cut = tt
cut_leaves (Some bytes) left' Done cut = absurd cut
cut_leaves (Some bytes) left' BadWords cut = tt
cut_leaves (Some bytes) left' SceneRefused cut = tt
cut_leaves (Some bytes) left' SpeedLimit cut = absurd cut
cut_leaves (Some bytes) left' RoundLimit cut = absurd cut
cut_leaves (Some bytes) left' ReadFault cut = tt
cut_leaves (Some bytes) left' WriteFault cut = tt
cut_leaves (Some bytes) left' NoMemory cut = tt
cut_leaves (Some bytes) left' Wrong cut = tt

-- if the claimed report in known bytes is the report, nothing is left of them
pub verdict_leaves : (left left' taken taken' : Option (List ℕ)) (v : Verdict) (text : List ℕ) (own status : Status) → own ≡ verdict_status v →
    Empties left left' (Ok v) → WritesText text own taken taken' status → LeavesNothing left left' status
verdict_leaves None left' taken taken' v text own status is none h = tt
verdict_leaves (Some bytes) left' taken taken' (Same lines) text own status is none h = elim h [
  | inl all ↦ subst (LeavesNothing (Some bytes) left') (sym (all.0 ∙ is)) none
  | inr part ↦ subst (LeavesNothing (Some bytes) left') (sym part.0) tt
]
verdict_leaves (Some bytes) left' taken taken' (Line number expected) text own status is none h = elim h [
  | inl all ↦ subst (LeavesNothing (Some bytes) left') (sym (all.0 ∙ is)) tt
  | inr part ↦ subst (LeavesNothing (Some bytes) left') (sym part.0) tt
]

in_read : (mode : Mode) → mode ≢ Load → mode ≢ Audit → (settings : Settings) (said : Reading) (status : Status) (list : List Progress) →
    PublishesRead mode said status list → PublishesIn mode settings said status list
in_read Run reads other settings said status list h = h
in_read Plain reads other settings said status list h = h
in_read Check reads other settings said status list h = h
in_read Load reads other settings said status list h = absurd (reads refl)
in_read Cut reads other settings said status list h = h
in_read Audit reads other settings said status list h = absurd (other refl)

-- the scene was read
pub scene_published : (settings : Settings) → settings.mode ≢ Load → settings.mode ≢ Audit → (left : Option (List ℕ)) (scene : SceneData) (status : Status) (list : List Progress) →
    IsReadingOf left (Ok scene) → PublishesShown settings.mode scene status list → Publishes (Some settings) left status list
scene_published settings reads other left scene status list said h =
    (Ok scene, said, in_read settings.mode reads other settings (Ok scene) status list h)

-- the scene was made
pub made_published : (settings : Settings) → settings.mode ≡ Load → (left : Option (List ℕ)) (status : Status) (list : List Progress) →
    PublishesMade settings.number settings.disks status list → Publishes (Some settings) left status list
made_published settings mode left status list h =
    let said = some_reading left in
    (said.0, said.1, subst (λ (m : Mode). PublishesIn m settings said.0 status list) (sym mode) h)

-- the claimed report of a scene was audited, which publishes nothing
pub audit_published : (settings : Settings) → settings.mode ≡ Audit → (left : Option (List ℕ)) (status : Status) (list : List Progress) →
    list ≡ [] → Publishes (Some settings) left status list
audit_published settings mode left status list none =
    let said = some_reading left in
    (said.0, said.1, subst (λ (m : Mode). PublishesIn m settings said.0 status list) (sym mode) none)
