-- What is written of a scene that is cut at a tick.
use Rattle.std.proofs.Common.{◌≡◌, inl, inr, ℕ, ◌≤◌, List, [], ◌∷◌, ◌++◌, take, drop, Option, Some, None, option_map, sym, ap, subst, refl, ◌∙◌}
use Rattle.std.specs.Prelude.{codes}
use Rattle.std.proofs.lemmas.List.{append-nil}
use Rattle.std.specs.Io.KnownBytes.{Appends, Keeps}
use Rattle.report_ports.specs.Ports.{AppendsPrefix, MayTake}
use Rattle.fixed_motion.specs.Scene.{SceneData, IsValidScene}
use Rattle.event_rules.specs.declared.change.Change.{Change}
use Rattle.event_rules.specs.declared.change.Limit.{Limit}
use Rattle.event_rules.specs.declared.outcome.Outcome.TheVariants.{Done as DoneOutcome, Limit as Passes}
use Rattle.event_rules.specs.Run.{IsRun}
use Rattle.event_rules.specs.declared.outcome.RunFault.{RunFault}
use Rattle.event_rules.specs.declared.outcome.RunFault.TheVariants.{Listener, NoMemory as RunNoMemory}
use Rattle.event_rules.specs.Outcomes.{IsOutcomeOf}
use Rattle.event_rules.specs.Told.{told, Told, Torn, PrefixTold}
use Rattle.event_rules.specs.Tellings.{RunCutShort}
use Rattle.event_rules.proofs.Fits.{outcomes_fit}
use Rattle.event_rules.proofs.OneRun.{one_run}
use Rattle.resume.specs.Parts.{before_scene, PassesBefore}
use Rattle.resume.proofs.InParts.{limits_come_first}
use Rattle.collision_report.specs.declared.format.Format.{Format}
use Rattle.collision_report.specs.declared.format.Format.TheVariants.{Lines, Summary}
use Rattle.collision_report.specs.Report.{listed, report}
use Rattle.collision_report.specs.Laws.{end_text}
use Rattle.collision_report.specs.Meaning.{ReportSoFar, LentReport, IsSceneOf, nothing_yet, with_change, change_text, IsTornAt, told_on_loan, IsTornOnLoan}
use Rattle.program_modes.specs.declared.cut.Cut.{Cut}
use Rattle.program_modes.specs.declared.cut.Cut.TheVariants.{Rest, Limit as PassesLimit}
use Rattle.program_modes.specs.declared.status.Status.{Status}
use Rattle.program_modes.specs.declared.status.Status.TheVariants.{Done, BadWords, SceneRefused, SpeedLimit, RoundLimit, ReadFault, WriteFault, NoMemory, Wrong}
use Rattle.program_modes.specs.Output.{IsSceneText, IsCutText, scene_text_of}
use Rattle.program_modes.specs.Reports.{IsReport, status_of}
use Rattle.program_modes.specs.Answers.{Wrote, WrotePrefix, MayWrite}
use Rattle.program_modes.specs.Cut.{CutTold}
use Rattle.program_modes.specs.Shows.{WritesText}
use Rattle.program_modes.proofs.OneOutput.{one_left}
use Rattle.program_modes.proofs.Reported.{reporting, makes_report}
use Rattle.program_modes.proofs.Writers.{told_on, begun_lent, serves_scene, wrote_end, may_end}
use Rattle.program_modes.proofs.Wrote.{kept, wrote_nothing, as_wrote}

-- ---- bytes that stay
keeps_on : (a b c : Option (List ℕ)) → Keeps a b → Keeps b c → Keeps a c
keeps_on None b c h k = tt
keeps_on (Some x) None c h k = absurd h
keeps_on (Some x) (Some y) None h k = absurd k
keeps_on (Some x) (Some y) (Some z) h k = k ∙ h

appends_from : (a b c : Option (List ℕ)) (text : List ℕ) → Keeps a b → Appends b c text → Appends a c text
appends_from None b c text k h = tt
appends_from (Some x) None c text k h = absurd k
appends_from (Some x) (Some y) None text k h = absurd h
appends_from (Some x) (Some y) (Some z) text k h = h ∙ ap (λ (v : List ℕ). v ++ text) k

appended_nothing : (a b : Option (List ℕ)) (given : List ℕ) → given ≡ [] → Appends a b given → Keeps a b
appended_nothing None b given e h = tt
appended_nothing (Some x) None given e h = absurd h
appended_nothing (Some x) (Some y) given e h = h ∙ ap (λ (v : List ℕ). x ++ v) e ∙ append-nil x

-- what is written after bytes that stayed
wrote_from : (output : List ℕ → Status → Type 0) (a b c : Option (List ℕ)) (status : Status) → Keeps a b →
    Wrote output b c status → Wrote output a c status
wrote_from output a b c Done k h = (h.0, h.1, appends_from a b c h.0 k h.2)
wrote_from output a b c BadWords k h = (h.0, h.1, appends_from a b c h.0 k h.2)
wrote_from output a b c SceneRefused k h = (h.0, h.1, appends_from a b c h.0 k h.2)
wrote_from output a b c SpeedLimit k h = (h.0, h.1, appends_from a b c h.0 k h.2)
wrote_from output a b c RoundLimit k h = (h.0, h.1, appends_from a b c h.0 k h.2)
wrote_from output a b c ReadFault k h = keeps_on a b c k h
wrote_from output a b c WriteFault k h = (h.0, h.1, h.2, (h.3.0, h.3.1, h.3.2, appends_from a b c h.3.0 k h.3.3))
wrote_from output a b c NoMemory k h = (h.0, h.1, h.2, (h.3.0, h.3.1, h.3.2, appends_from a b c h.3.0 k h.3.3))
wrote_from output a b c Wrong k h = (h.0, h.1, appends_from a b c h.0 k h.2)

-- ---- the short form, which has nothing of changes
listed_none : (format : Format) (text : List ℕ) → format ≡ Summary → listed format text ≡ []
listed_none Lines text e = cc
listed_none Summary text e = refl

quiet_change : (format : Format) (text : List ℕ) (taken : Option (List ℕ)) → format ≡ Summary →
    Keeps taken (option_map (λ (bytes : List ℕ). bytes ++ listed format text) taken)
quiet_change format text None e = tt
quiet_change format text (Some bytes) e = ap (λ (v : List ℕ). bytes ++ v) (listed_none format text e) ∙ append-nil bytes

front_of_nothing : (xs ys : List ℕ) → [] ≡ xs ++ ys → xs ≡ []
front_of_nothing [] ys e = refl
front_of_nothing (x ∷ xs) ys e = cc

quiet_refusal : (format : Format) (text : List ℕ) (a b : Option (List ℕ)) → format ≡ Summary →
    AppendsPrefix a b (listed format text) → Keeps a b
quiet_refusal format text a b e h =
    appended_nothing a b h.0 (front_of_nothing h.0 h.1 (sym (listed_none format text e) ∙ h.2)) h.3

quiet : (m : ReportSoFar) (changes : List Change) → m.format ≡ Summary →
    Keeps m.taken (told with_change m changes).taken × ((told with_change m changes).format ≡ Summary)
quiet m [] e = (kept m.taken, e)
quiet m (c ∷ cs) e =
    let rest = quiet (with_change m c) cs e in (
      keeps_on m.taken (with_change m c).taken (told with_change (with_change m c) cs).taken
          (quiet_change m.format (change_text m.table c) m.taken e) rest.0,
      rest.1,
    )

quiet_prefix : (m n : ReportSoFar) (changes : List Change) → m.format ≡ Summary →
    PrefixTold with_change IsTornAt (Some m) changes (Some n) → Keeps m.taken n.taken
quiet_prefix m n changes e (k, h) = elim h [
  | inl all ↦ subst (λ (v : ReportSoFar). Keeps m.taken v.taken) (sym all) (quiet m (take k changes) e).0
  | inr torn ↦ at_torn torn.0 torn.1 torn.2 torn.3 torn.4 torn.5
]
  where
    at_torn : (mid : Option ReportSoFar) (c : Change) (rest : List Change) → drop k changes ≡ c ∷ rest →
        Told with_change (Some m) (take k changes) mid → Torn IsTornAt mid c (Some n) → Keeps m.taken n.taken
    at_torn None c rest d first torn = absurd first
    at_torn (Some mid) c rest d first torn =
        let before = quiet m (take k changes) e in
        let format = subst (λ (v : ReportSoFar). v.format ≡ Summary) (sym first) before.1 in
        keeps_on m.taken mid.taken n.taken (subst (λ (v : ReportSoFar). Keeps m.taken v.taken) (sym first) before.0)
        (quiet_refusal mid.format (change_text mid.table c) mid.taken n.taken format torn.taken)

-- ---- what a reporter in the short form has written that was told a cut
-- nothing was written, on the same loan
pub record IsQuiet {Loan : Type 0} (taken : Option (List ℕ)) (m n : LentReport Loan) : Type 0 where
  pub sink : n.0 ≡ m.0
  pub keeps : Keeps taken n.1.taken

all_quiet : {Loan : Type 0} (scene : SceneData) (taken : Option (List ℕ)) (changes : List Change) (m n : LentReport Loan) →
    m.1 ≡ nothing_yet Summary scene taken → n ≡ told told_on_loan m changes → IsQuiet taken m n
all_quiet scene taken changes m n first h =
    let start = nothing_yet Summary scene taken in
    let same = told_on reporting m.0 m.1 start changes n first h in record {
      sink = ap (λ v. v.0) same;
      keeps = subst (λ v. Keeps taken v.1.taken) (sym same) (quiet start changes refl).0;
    }

prefix_quiet : {Loan : Type 0} (scene : SceneData) (taken : Option (List ℕ)) (changes : List Change) (m n : LentReport Loan) →
    m.1 ≡ nothing_yet Summary scene taken → PrefixTold told_on_loan IsTornOnLoan (Some m) changes (Some n) → IsQuiet taken m n
prefix_quiet scene taken changes m n first h =
    let start = nothing_yet Summary scene taken in
    let here = begun_lent reporting m.0 start changes n
    (subst (λ (v : ReportSoFar). PrefixTold told_on_loan IsTornOnLoan (Some (m.0, v)) changes (Some n)) first h) in record {
      sink = here.0;
      keeps = quiet_prefix start n.1 changes refl here.1;
    }

-- nothing: a prefix of what is left, whatever that is
pub unwritten : (format : Format) (at : ℕ) (scene : SceneData) (taken after : Option (List ℕ)) → at ≤ scene.rules.end →
    IsValidScene scene → Keeps taken after → WrotePrefix (IsCutText format at scene) taken after
unwritten format at scene taken after le valid keeps =
    let one = one_left format at scene le valid in
    wrote_nothing (IsCutText format at scene) one.0 one.1 taken after (inr (le, one.2)) keeps

-- a run up to the tick that breaks off
pub record CutPart {Loan : Type 0} (format : Format) (at : ℕ) (scene : SceneData) (taken : Option (List ℕ)) (m n : LentReport Loan) : Type 0 where
  pub sink : n.0 ≡ m.0
  pub prefix : WrotePrefix (IsCutText format at scene) taken n.1.taken

pub cut_part : {Loan : Type 0} (format : Format) (at : ℕ) (scene : SceneData) (taken : Option (List ℕ)) (m n : LentReport Loan) (fault : RunFault) →
    RunCutShort told_on_loan IsTornOnLoan (before_scene scene at) fault (Some m) (Some n) → at ≤ scene.rules.end →
    IsValidScene scene → m.1 ≡ nothing_yet Summary scene taken → CutPart format at scene taken m n
cut_part format at scene taken m n Listener told le valid first =
    let here = prefix_quiet scene taken told.0 m n first told.3 in
    record { sink = here.sink; prefix = unwritten format at scene taken n.1.taken le valid here.keeps }
cut_part format at scene taken m n RunNoMemory told le valid first =
    let here = prefix_quiet scene taken told.0 m n first (told.3.0, inl told.3.1) in
    record { sink = here.sink; prefix = unwritten format at scene taken n.1.taken le valid here.keeps }

-- a run that is done at the tick: what is left is what is to be written
pub record CutRest {Loan : Type 0} (format : Format) (at : ℕ) (scene rest : SceneData) (taken : Option (List ℕ)) (m n : LentReport Loan) : Type 0 where
  pub sink : n.0 ≡ m.0
  pub wrote : (after : Option (List ℕ)) (status : Status) →
      Wrote (IsSceneText (codes "rest") format rest) n.1.taken after status → Wrote (IsCutText format at scene) taken after status

pub cut_rest : {Loan : Type 0} (format : Format) (at : ℕ) (scene rest : SceneData) (taken : Option (List ℕ)) (m n : LentReport Loan) (cut : Cut) →
    cut ≡ Rest rest → CutTold told_on_loan scene at cut (Some m) (Some n) → at ≤ scene.rules.end →
    m.1 ≡ nothing_yet Summary scene taken → CutRest format at scene rest taken m n
cut_rest format at scene rest taken m n cut e h le first =
    let told = subst (λ (c : Cut). CutTold told_on_loan scene at c (Some m) (Some n)) e h in
    let parts = told.4.0 in
    let here = all_quiet scene taken parts.first m n first told.4.2 in record {
      sink = here.sink;
      wrote = (λ after status wrote.
          wrote_from (IsCutText format at scene) taken n.1.taken after status here.keeps
          (as_wrote (IsSceneText (codes "rest") format rest) (IsCutText format at scene)
          (λ text own h. inr (
            le,
            (
              parts.first,
              DoneOutcome parts.spots,
              parts.before,
              h.0 ∙ ap (scene_text_of (codes "rest") format) told.4.1,
              h.1,
            ),
          )) n.1.taken after status wrote));
    }

-- a run that passes a limit before the tick: its report is that of the run up to it
limit_left : (format : Format) (at : ℕ) (scene : SceneData) (changes : List Change) (limit : Limit) →
    at ≤ scene.rules.end → IsValidScene scene → IsRun scene changes (Passes limit) → PassesBefore at (Passes limit) →
    (text : List ℕ) (status : Status) → IsReport Summary scene text status → IsCutText format at scene text status
limit_left format at scene changes limit le valid run passes text status h =
    let same = one_run scene.rules scene.disks h.0 changes h.1 (Passes limit) h.2 run in
    inr (
      le,
      (
        changes,
        Passes limit,
        limits_come_first scene at changes (Passes limit) valid le run passes,
        h.3 ∙ (λ i. report Summary scene (same.0 i) (same.1 i)),
        h.4 ∙ (λ i. status_of (same.1 i)),
      ),
    )

pub record CutLimit {Loan : Type 0} (format : Format) (at : ℕ) (scene : SceneData) (limit : Limit) (taken : Option (List ℕ)) (m n : LentReport Loan) : Type 0 where
  pub sink : n.0 ≡ m.0
  pub outcome : IsOutcomeOf scene (Passes limit)
  pub table : IsSceneOf n.1.table scene
  pub ended : (after : Option (List ℕ)) (status : Status) →
      WritesText (end_text n.1 scene (Passes limit)) (status_of (Passes limit)) n.1.taken after status →
      Wrote (IsCutText format at scene) taken after status

pub cut_limit : {Loan : Type 0} (format : Format) (at : ℕ) (scene : SceneData) (limit : Limit) (taken : Option (List ℕ)) (m n : LentReport Loan) (cut : Cut) →
    cut ≡ PassesLimit limit → CutTold told_on_loan scene at cut (Some m) (Some n) → at ≤ scene.rules.end → IsValidScene scene →
    m.1 ≡ nothing_yet Summary scene taken → CutLimit format at scene limit taken m n
cut_limit format at scene limit taken m n cut e h le valid first =
    let told = subst (λ (c : Cut). CutTold told_on_loan scene at c (Some m) (Some n)) e h in
    let changes = told.0 in let run = told.1 in
    let left = limit_left format at scene changes limit le valid run told.2 in
    let start = nothing_yet Summary scene taken in let makes = makes_report Summary scene taken valid in record {
      sink = ap (λ v. v.0) (told_on reporting m.0 m.1 start changes n first told.3);
      outcome = outcomes_fit scene changes (Passes limit) valid run;
      table = serves_scene reporting (report Summary) scene start makes m.0 changes m.1 n first told.3;
      ended = (λ after status text.
          as_wrote (IsReport Summary scene) (IsCutText format at scene) left taken after status
          (wrote_end reporting (report Summary) scene start makes m.0 after changes (Passes limit) m.1 n status run first told.3 text));
    }

-- ---- what may be written of it
same_taken : (t : Option (List ℕ)) → option_map (λ (bytes : List ℕ). bytes ++ []) t ≡ t
same_taken None = refl
same_taken (Some bytes) = ap Some (append-nil bytes)

-- in the short form nothing is written for the changes
quiet_taken : (m : ReportSoFar) (changes : List Change) → m.format ≡ Summary → (told with_change m changes).taken ≡ m.taken
quiet_taken m [] e = refl
quiet_taken m (c ∷ cs) e =
    quiet_taken (with_change m c) cs e
    ∙ ap (λ (format : Format). option_map (λ (bytes : List ℕ). bytes ++ listed format (change_text m.table c)) m.taken) e
    ∙ same_taken m.taken

-- the rest, after a run that is done at the tick
pub rest_may : {Loan : Type 0} (allows : Loan → List ℕ → Type 0) (format : Format) (at : ℕ) (scene rest : SceneData) (taken : Option (List ℕ))
    (m n : LentReport Loan) (cut : Cut) → cut ≡ Rest rest → CutTold told_on_loan scene at cut (Some m) (Some n) → at ≤ scene.rules.end →
    m.1 ≡ nothing_yet Summary scene taken → MayWrite (IsCutText format at scene) (allows m.0) taken →
    MayWrite (IsSceneText (codes "rest") format rest) (allows n.0) n.1.taken
rest_may allows format at scene rest taken m n cut e h le first may text own of =
    let told = subst (λ (c : Cut). CutTold told_on_loan scene at c (Some m) (Some n)) e h in
    let parts = told.4.0 in
    let start = nothing_yet Summary scene taken in
    subst (λ v. MayTake (allows v.0) v.1.taken text) (sym (told_on reporting m.0 m.1 start parts.first n first told.4.2))
    (subst (λ (t : Option (List ℕ)). MayTake (allows m.0) t text) (sym (quiet_taken start parts.first refl))
    (may text own (inr (
      le,
      (
        parts.first,
        DoneOutcome parts.spots,
        parts.before,
        of.0 ∙ ap (scene_text_of (codes "rest") format) told.4.1,
        of.1,
      ),
    ))))

-- the end of the report, after a run that passes a limit before the tick
pub limit_may : {Loan : Type 0} (allows : Loan → List ℕ → Type 0) (format : Format) (at : ℕ) (scene : SceneData) (limit : Limit) (taken : Option (List ℕ))
    (m n : LentReport Loan) (cut : Cut) → cut ≡ PassesLimit limit → CutTold told_on_loan scene at cut (Some m) (Some n) → at ≤ scene.rules.end →
    IsValidScene scene → m.1 ≡ nothing_yet Summary scene taken → MayWrite (IsCutText format at scene) (allows m.0) taken →
    MayTake (allows n.0) n.1.taken (end_text n.1 scene (Passes limit))
limit_may allows format at scene limit taken m n cut e h le valid first may =
    let told = subst (λ (c : Cut). CutTold told_on_loan scene at c (Some m) (Some n)) e h in
    let changes = told.0 in let run = told.1 in
    let text = report Summary scene changes (Passes limit) in
    may_end reporting (report Summary) scene (nothing_yet Summary scene taken) (makes_report Summary scene taken valid) allows m.0 changes (Passes limit) m.1 n run first told.3
    (may text (status_of (Passes limit)) (limit_left format at scene changes limit le valid run told.2 text (status_of (Passes limit))
    (changes, Passes limit, run, refl, refl)))
