-- A sampler awaits the changes of a run.
use Rattle.std.proofs.Common.{◌≡◌, ℕ, Bool, true, List, [], ◌∷◌, ◌++◌, Option, ap, sym, subst, if◌then◌else◌}
use Rattle.report_ports.specs.Ports.{MayTake}
use Rattle.report_ports.proofs.Allowed.{may_front, may_next}
use Rattle.fixed_motion.specs.declared.disk.Disk.{Disk}
use Rattle.fixed_motion.specs.Scene.{SceneData, IsValidScene}
use Rattle.event_rules.specs.declared.change.Change.{Change}
use Rattle.event_rules.specs.declared.outcome.Outcome.{Outcome}
use Rattle.event_rules.specs.Run.{IsRun, IsValidState, Steps}
use Rattle.event_rules.specs.Told.{AreAwaited}
use Rattle.event_rules.proofs.Exists.{each_scene_runs}
use Rattle.event_rules.proofs.Fits.{change_fits, changes_fit}
use Rattle.event_rules.proofs.OneRun.{steps_begin}
use Rattle.event_rules.proofs.Ran.{event_valid}
use Rattle.event_rules.proofs.Ranges.{starts_valid}
use Rattle.collision_report.specs.Meaning.{TableData, takes_part, with_records}
use Rattle.collision_report.proofs.Pieces.{appends_map}
use Rattle.collision_report.proofs.Tables.{change_takes_part}
use Rattle.collision_report.proofs.Told.{alike_after}
use Rattle.run_samples.specs.declared.sample.Sample.{Sample}
use Rattle.run_samples.specs.Samples.{samples}
use Rattle.run_samples.specs.Meaning.{SampledSoFar, LentSamples, nothing_sampled, sampled_text, table_with, with_sampled, sampled_on_loan, IsSampleAwaited}
use Rattle.run_samples.proofs.Joined.{text_sampled, may_sample_by}

from_now : {Loan : Type 0} (allows : Loan → List ℕ → Type 0) (m : LentSamples Loan) (later : List Disk) (changes : List Change) →
    IsValidState m.1.table.rules m.1.table.disks → MayTake (allows m.0) m.1.taken (text_sampled m.1 changes) →
    Steps m.1.table.rules m.1.table.disks changes later → AreAwaited sampled_on_loan (IsSampleAwaited allows) m changes
from_now allows m later [] valid may steps = tt
from_now allows m later (c ∷ cs) valid may steps =
    let table = m.1.table in
    let text = sampled_text m.1.sample table m.1.sums c in
    let texts = text_sampled (with_sampled m.1 c) cs in
    let part : takes_part table c ≡ true = change_takes_part table c (change_fits table.rules table.disks c valid steps.0.0 steps.1) in
    let same : table_with table c ≡ with_records table c = ap (λ (b : Bool). if b then with_records table c else table) part in (
      (may_front (allows m.0) m.1.taken text texts may, steps.0, steps.1),
      from_now allows (sampled_on_loan m c) later cs
          (subst (λ (t : TableData). IsValidState t.rules t.disks) (sym same) (event_valid table.rules table.disks c valid steps.0.0 steps.1))
          (may_next (allows m.0) m.1.taken (with_sampled m.1 c).taken text texts (appends_map m.1.taken text) (alike_after m.1.taken text) may)
          (subst (λ (t : TableData). Steps t.rules t.disks cs later) (sym same) steps.2),
    )

-- a sampler that was told nothing awaits all that a run does from the start of the scene, if its sink may take the samples
pub samples_await : {Loan : Type 0} (allows : Loan → List ℕ → Type 0) (sample : Sample) (scene : SceneData) (taken : Option (List ℕ)) (m : LentSamples Loan)
    (changes : List Change) (later : List Disk) → IsValidScene scene → m.1 ≡ nothing_sampled sample scene taken →
    ((all : List Change) (outcome : Outcome) → IsRun scene all outcome → MayTake (allows m.0) taken (samples sample scene all outcome)) →
    Steps scene.rules scene.disks changes later → AreAwaited sampled_on_loan (IsSampleAwaited allows) m changes
samples_await allows sample scene taken m changes later valid first may steps =
    let run = each_scene_runs scene valid in
    let begins = steps_begin scene.rules scene.disks later changes run.0 run.1 steps run.2 in
    let whole : IsRun scene (changes ++ begins.0) run.1 = subst (λ (all : List Change). IsRun scene all run.1) begins.1 run.2 in
    subst (λ (r : SampledSoFar). AreAwaited sampled_on_loan (IsSampleAwaited allows) (m.0, r) changes) (sym first)
    (from_now allows (m.0, nothing_sampled sample scene taken) later changes (starts_valid scene valid)
    (may_sample_by changes_fit (allows m.0) sample scene taken changes begins.0 run.1 valid whole (may (changes ++ begins.0) run.1 whole)) steps)
