-- A reporter awaits the changes of a run.
use Rattle.std.proofs.Common.{◌≡◌, ℕ, ◌+◌, Bool, true, false, cond, List, [], ◌∷◌, ◌++◌, length, Option, Some, None, arith, ap, sym, refl, ◌∙◌, subst, if◌then◌else◌, count_by}
use Rattle.std.specs.Prelude.{◌&&◌, is_some, Ok}
use Rattle.std.proofs.lemmas.List.Sums.{sum_by-append, sum_by-cons}
use Rattle.report_ports.specs.Ports.{MayTake}
use Rattle.report_ports.proofs.Allowed.{may_nothing, may_front, may_next}
use Rattle.fixed_motion.specs.declared.rules.Rules.{Rules}
use Rattle.fixed_motion.specs.declared.disk.Disk.{Disk}
use Rattle.fixed_motion.specs.Scene.{SceneData, IsValidScene}
use Rattle.event_rules.specs.declared.change.Change.{Change}
use Rattle.event_rules.specs.Outcomes.{IsChangeOf}
use Rattle.event_rules.specs.Run.{IsNext, ComesTo, IsValidState, Steps, effect}
use Rattle.event_rules.specs.Told.{AreAwaited}
use Rattle.event_rules.specs.declared.outcome.Outcome.{Outcome}
use Rattle.event_rules.specs.Run.{IsRun}
use Rattle.event_rules.proofs.Exists.{each_scene_runs}
use Rattle.event_rules.proofs.Fits.{change_fits, changes_fit}
use Rattle.event_rules.proofs.OneRun.{steps_begin}
use Rattle.event_rules.proofs.Ran.{event_valid}
use Rattle.event_rules.proofs.Ranges.{starts_valid}
use Rattle.event_rules.proofs.Steps.{one_more}
use Rattle.collision_report.specs.declared.format.Format.{Format}
use Rattle.collision_report.specs.declared.format.Format.TheVariants.{Summary}
use Rattle.collision_report.specs.Report.{listed, is_wall, is_pair, report}
use Rattle.collision_report.specs.Meaning.{TableData, ReportSoFar, nothing_yet, table_after, takes_part, change_text, keeps_records, with_records, counted, with_change, HasComeTo, LentReport, told_on_loan, IsAwaitedOnLoan}
use Rattle.collision_report.proofs.Tables.{change_takes_part}
use Rattle.collision_report.proofs.Told.{counted_step, text_told, alike_after, may_tell_by, quiet_text}
use Rattle.collision_report.proofs.Pieces.{appends_map}

-- ---- what stays of a table
rules_kept : (b : Bool) (table : TableData) (c : Change) →
    (if b then with_records table c else table).rules ≡ table.rules
rules_kept true table c = refl
rules_kept false table c = refl

every_kept : (b : Bool) (table : TableData) (c : Change) →
    (if b then with_records table c else table).every ≡ table.every
every_kept true table c = refl
every_kept false table c = refl

table_by : (b : Bool) (table : TableData) (c : Change) → keeps_records table c ≡ b →
    table_after table c ≡ (if b then with_records table c else table)
table_by b table c keeps = ap (λ (v : Bool). if v then with_records table c else table) keeps

-- ---- one change more
-- a count of some kind of changes
count_more : (p : Change → Bool) (changes : List Change) (c : Change) →
    count_by p (changes ++ c ∷ []) ≡ count_by p changes + cond (p c) 1 0
count_more p changes c =
    let one : count_by p (c ∷ []) ≡ cond (p c) 1 0 + 0 = sum_by-cons (λ (d : Change). cond (p d) 1 0) c [] in
    sum_by-append (λ (d : Change). cond (p d) 1 0) changes (c ∷ [])
    ∙ ap (λ (n : ℕ). count_by p changes + n) (one ∙ (let e : cond (p c) 1 0 + 0 ≡ cond (p c) 1 0 = omega arith in e))

counted_more : (p : Change → Bool) (n : ℕ) (changes : List Change) (c : Change) →
    n ≡ counted (count_by p changes) →
    (if p c then counted (n + 1) else n) ≡ counted (count_by p (changes ++ c ∷ []))
counted_more p n changes c is =
    ap (λ (v : ℕ). if p c then counted (v + 1) else v) is
    ∙ counted_step (p c) (count_by p changes)
    ∙ ap counted (sym (count_more p changes c))

-- the state that the report has reached then
comes_on : (every : Option ℕ) (m : ReportSoFar) (now : List Disk) (c : Change) → m.table.every ≡ every →
    IsValidState m.table.rules now → IsNext m.table.rules now c.stamp →
    ComesTo m.table.rules now c.stamp (Ok c) → HasComeTo every m now →
    HasComeTo every (with_change m c) (effect now c)
comes_on None m now c is valid next comes come =
    let keeps : keeps_records m.table c ≡ false =
    ap (λ (every : Option ℕ). is_some every && takes_part m.table c) is in
    let same : table_after m.table c ≡ m.table = table_by false m.table c keeps in (
      come.0 ++ c ∷ [],
      subst (λ (t : TableData). Steps t.rules t.disks (come.0 ++ c ∷ []) (effect now c)) (sym same)
          (one_more m.table.rules m.table.disks now come.0 c come.1 next comes),
      counted_more is_wall m.walls come.0 c come.2,
      counted_more is_pair m.pairs come.0 c come.3,
    )
comes_on (Some every) m now c is valid next comes come =
    let fits = subst (λ (disks : List Disk). IsChangeOf m.table.rules (length disks) c) come
    (change_fits m.table.rules now c valid next.0 comes) in
    let keeps : keeps_records m.table c ≡ true =
    ap (λ (every : Option ℕ). is_some every && takes_part m.table c) is ∙ change_takes_part m.table c fits in
    let same : table_after m.table c ≡ with_records m.table c = table_by true m.table c keeps in
    ap (λ (disks : List Disk). effect disks c) come ∙ sym (ap (λ (t : TableData). t.disks) same)

-- ---- a run
from_now : {Loan : Type 0} (allows : Loan → List ℕ → Type 0) (m : LentReport Loan) (now later : List Disk) (changes : List Change) →
    IsValidState m.1.table.rules now → HasComeTo m.1.table.every m.1 now →
    MayTake (allows m.0) m.1.taken (text_told m.1 changes) →
    Steps m.1.table.rules now changes later → AreAwaited told_on_loan (IsAwaitedOnLoan allows) m changes
from_now allows m now later [] valid come may steps = tt
from_now allows m now later (c ∷ cs) valid come may steps =
    let table = m.1.table in
    let rules : table.rules ≡ (table_after table c).rules = sym (rules_kept (keeps_records table c) table c) in
    let every : table.every ≡ (table_after table c).every = sym (every_kept (keeps_records table c) table c) in
    let text = listed m.1.format (change_text table c) in
    let texts = text_told (with_change m.1 c) cs in (
      (may_front (allows m.0) m.1.taken text texts may, (now, come, steps.0, steps.1)),
      from_now allows (told_on_loan m c) (effect now c) later cs
          (subst (λ (r : Rules). IsValidState r (effect now c)) rules
          (event_valid table.rules now c valid steps.0.0 steps.1))
          (subst (λ (e : Option ℕ). HasComeTo e (with_change m.1 c) (effect now c)) every
          (comes_on table.every m.1 now c refl valid steps.0 steps.1 come))
          (may_next (allows m.0) m.1.taken (with_change m.1 c).taken text texts (appends_map m.1.taken text)
          (alike_after m.1.taken text) may)
          (subst (λ (r : Rules). Steps r (effect now c) cs later) rules steps.2),
    )

-- at the start nothing is counted
at_start : (format : Format) (scene : SceneData) (taken : Option (List ℕ)) (every : Option ℕ) →
    HasComeTo every (nothing_yet format scene taken) scene.disks
at_start format scene taken None = ([], refl, refl, refl)
at_start format scene taken (Some every) = refl

-- a reporter that was told nothing awaits all that a run does from the start of the scene, if its sink may take the texts
pub report_awaits : {Loan : Type 0} (allows : Loan → List ℕ → Type 0) (format : Format) (scene : SceneData) (taken : Option (List ℕ)) (m : LentReport Loan)
    (changes : List Change) (later : List Disk) → IsValidScene scene → m.1 ≡ nothing_yet format scene taken →
    MayTake (allows m.0) taken (text_told (nothing_yet format scene taken) changes) →
    Steps scene.rules scene.disks changes later → AreAwaited told_on_loan (IsAwaitedOnLoan allows) m changes
report_awaits allows format scene taken m changes later valid first may steps =
    subst (λ (r : ReportSoFar). AreAwaited told_on_loan (IsAwaitedOnLoan allows) (m.0, r) changes) (sym first)
    (from_now allows (m.0, nothing_yet format scene taken) scene.disks later changes (starts_valid scene valid)
    (at_start format scene taken scene.every) may steps)

-- so it does if the sink may take the report
pub run_awaits : {Loan : Type 0} (allows : Loan → List ℕ → Type 0) (format : Format) (scene : SceneData) (taken : Option (List ℕ)) (m : LentReport Loan)
    (changes : List Change) (later : List Disk) → IsValidScene scene → m.1 ≡ nothing_yet format scene taken →
    ((all : List Change) (outcome : Outcome) → IsRun scene all outcome → MayTake (allows m.0) taken (report format scene all outcome)) →
    Steps scene.rules scene.disks changes later → AreAwaited told_on_loan (IsAwaitedOnLoan allows) m changes
run_awaits allows format scene taken m changes later valid first may steps =
    let run = each_scene_runs scene valid in
    let begins = steps_begin scene.rules scene.disks later changes run.0 run.1 steps run.2 in
    let whole : IsRun scene (changes ++ begins.0) run.1 = subst (λ (all : List Change). IsRun scene all run.1) begins.1 run.2 in
    report_awaits allows format scene taken m changes later valid first
    (may_tell_by changes_fit (allows m.0) format scene taken changes begins.0 run.1 valid whole (may (changes ++ begins.0) run.1 whole)) steps

-- in the short form it awaits it whatever the sink may take
pub quiet_awaits : {Loan : Type 0} (allows : Loan → List ℕ → Type 0) (scene : SceneData) (taken : Option (List ℕ)) (m : LentReport Loan)
    (changes : List Change) (later : List Disk) → IsValidScene scene → m.1 ≡ nothing_yet Summary scene taken →
    Steps scene.rules scene.disks changes later → AreAwaited told_on_loan (IsAwaitedOnLoan allows) m changes
quiet_awaits allows scene taken m changes later valid first steps =
    report_awaits allows Summary scene taken m changes later valid first
    (subst (λ (v : List ℕ). MayTake (allows m.0) taken v) (sym (quiet_text (nothing_yet Summary scene taken) changes refl))
    (may_nothing (allows m.0) taken)) steps
