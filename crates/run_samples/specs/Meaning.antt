-- What a listener that samples a run means.
use Rattle.std.specs.Prelude.{◌≡◌, ℕ, ◌+◌, if◌then◌else◌, List, [], ◌++◌, Option, option_map, is_some, Ok}
use Rattle.report_ports.specs.Ports.{AppendsPrefix, MayTake}
use Rattle.fixed_motion.specs.Scene.{SceneData}
use Rattle.event_rules.specs.declared.change.Change.{Change}
use Rattle.event_rules.specs.declared.outcome.Outcome.{Outcome}
use Rattle.event_rules.specs.Laws.{last_tick}
use Rattle.event_rules.specs.Run.{IsNext, ComesTo}
use Rattle.collision_report.specs.Meaning.{TableData, table_of, takes_part, with_records, counted}
use Rattle.collision_report.specs.Report.{is_wall, is_pair}
use Rattle.run_samples.specs.declared.sample.Sample.{Sample}
use Rattle.collision_sums.specs.declared.sums.Sums.{Sums}
use Rattle.collision_sums.specs.Sums.{no_sums}
use Rattle.run_samples.specs.Samples.{samples_of, summed, sampled_end}

-- samples so far: the records, the sums, what the sink has taken, if it knows, and how many changes were counted
pub record SampledSoFar : Type 0 where
  pub sample : Sample
  pub table : TableData
  pub sums : Sums
  pub taken : Option (List ℕ)
  pub walls : ℕ
  pub pairs : ℕ

-- the samples so far with these parts
abbrev pub sampled_so_far : Sample → TableData → Sums → Option (List ℕ) → ℕ → ℕ → SampledSoFar
sampled_so_far sample table sums taken walls pairs =
    record { sample = sample; table = table; sums = sums; taken = taken; walls = walls; pairs = pairs }

-- nothing is sampled yet
abbrev pub nothing_sampled : Sample → SceneData → Option (List ℕ) → SampledSoFar
nothing_sampled sample scene taken = sampled_so_far sample (table_of scene) no_sums taken 0 0

-- the samples that are due up to a tick
abbrev pub due_samples : Sample → TableData → Sums → ℕ → List ℕ
due_samples sample table sums tick = samples_of sample table.rules table.every table.disks sums table.shown tick

-- what is written for a change: the samples that are due, if it is one of disks in the table, as each change of a run
abbrev pub sampled_text : Sample → TableData → Sums → Change → List ℕ
sampled_text sample table sums c = if takes_part table c then due_samples sample table sums c.stamp.tick else []

-- the table after a change
abbrev pub table_with : TableData → Change → TableData
table_with table c = if takes_part table c then with_records table c else table

-- the sums after a change
abbrev pub sums_with : Sample → TableData → Sums → Change → Sums
sums_with sample table sums c = if takes_part table c then summed sample table.rules table.disks sums c else sums

-- a change is told: the samples that are due are appended, it is summed, its records are put into the table, and it is counted
abbrev pub with_sampled : SampledSoFar → Change → SampledSoFar
with_sampled m c = record {
  sample = m.sample;
  table = table_with m.table c;
  sums = sums_with m.sample m.table m.sums c;
  taken = option_map (λ taken. taken ++ sampled_text m.sample m.table m.sums c) m.taken;
  walls = if is_wall c then counted (m.walls + 1) else m.walls;
  pairs = if is_pair c then counted (m.pairs + 1) else m.pairs;
}

-- a change is refused: a prefix of its text is appended, and nothing is summed or counted
pub record IsSampleTornAt (m : SampledSoFar) (c : Change) (n : SampledSoFar) : Type 0 where
  pub sample : n.sample ≡ m.sample
  pub taken : AppendsPrefix m.taken n.taken (sampled_text m.sample m.table m.sums c)
  pub knows : is_some n.taken ≡ is_some m.taken
  pub sums : n.sums ≡ m.sums
  pub walls : n.walls ≡ m.walls
  pub pairs : n.pairs ≡ m.pairs

-- what `end` appends
abbrev pub sampled_end_text : SampledSoFar → SceneData → Outcome → List ℕ
sampled_end_text m scene outcome =
    due_samples m.sample m.table m.sums (last_tick scene outcome) ++ sampled_end m.sample scene m.sums outcome m.walls m.pairs

-- the loan of the sink, and what lasts of it, stay
abbrev pub LentSamples : Type 0 → Type 0
LentSamples Loan = Loan × SampledSoFar

-- a change is told, on the same loan
abbrev pub sampled_on_loan : {Loan : Type 0} → LentSamples Loan → Change → LentSamples Loan
sampled_on_loan m c = (m.0, with_sampled m.1 c)

-- a change is refused, on the same loan
abbrev pub IsSampleTornOnLoan : {Loan : Type 0} → LentSamples Loan → Change → LentSamples Loan → Type 0
IsSampleTornOnLoan m c n = (n.0 ≡ m.0) × IsSampleTornAt m.1 c n.1

-- the change of the next event is awaited, if the sink may take the samples that are due for it
abbrev pub IsSampleAwaited : {Loan : Type 0} → (Loan → List ℕ → Type 0) → LentSamples Loan → Change → Type 0
IsSampleAwaited allows m c = MayTake (allows m.0) m.1.taken (sampled_text m.1.sample m.1.table m.1.sums c)
    × IsNext m.1.table.rules m.1.table.disks c.stamp × ComesTo m.1.table.rules m.1.table.disks c.stamp (Ok c)
