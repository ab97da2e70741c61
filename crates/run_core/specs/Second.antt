-- One event of the cell run, by the region that is its home.
use Rattle.std.specs.Prelude.{◌≡◌, ◌⊎◌, ℕ}
use Rattle.event_stamps.specs.declared.Stamp.{Stamp}
use Rattle.event_stamps.specs.Order.{Before}
use Rattle.cell_grid.specs.Grid.{IsRegion, AreLinked}
use Rattle.cell_sequence.specs.State.{CellStateData}
use Rattle.local_run.specs.declared.answers.Step.{Step}
use Rattle.local_run.specs.declared.answers.Hearing.{Hearing}
use Rattle.local_run.specs.declared.answers.Hearing.TheVariants.{Same, Rewound, Later, Apart}
use Rattle.local_run.specs.Entries.{entries_below}
use Rattle.local_run.specs.LocalRun.{Local, IsDueOrEnd, now_of}
use Rattle.local_run.specs.Answers.{StepsTo, HearsFrom}
use Rattle.local_run.specs.Opening.{home_of}
use Rattle.commit_horizon.specs.Horizon.{LocalRuns}
use Rattle.run_core.specs.Hearings.{sent_by}

-- what taking back all entries from a stamp on leaves
abbrev pub rewound_to : Stamp → Local → Local
rewound_to s run = record run { log = entries_below s run.log }

-- region k's due stamp is the least of all
pub record IsLeastDue (state : CellStateData) (runs : LocalRuns) (dues : ℕ → Stamp) (k : ℕ) : Type 0 where
  pub within : IsRegion state.grid k
  pub due : (q : ℕ) → IsRegion state.grid q → IsDueOrEnd (home_of state q) (now_of (runs q)) (dues q)
  pub least : (q : ℕ) → IsRegion state.grid q → ¬ Before (dues q) (dues k)

-- a region that heard something new makes a step
abbrev pub StepsIfLater : CellStateData → ℕ → Hearing → Local → Local → Type 0
StepsIfLater state q Same mid after = after ≡ mid
StepsIfLater state q (Rewound d) mid after = after ≡ mid
StepsIfLater state q (Later d) mid after = (step : Step) × StepsTo (home_of state q) mid step after
StepsIfLater state q Apart mid after = after ≡ mid

-- region q hears what region k sent, and makes a step if that is new
pub record TakesIn (state : CellStateData) (runs : LocalRuns) (k q : ℕ) (after : Local) : Type 0 where
  pub answer : Hearing
  pub mid : Local
  pub hears : HearsFrom k (sent_by state runs k q) (runs q) answer mid
  pub steps : StepsIfLater state q answer mid after

-- each region that is linked to region k takes in what it sent, and the others stay
abbrev pub AllTakeIn : CellStateData → LocalRuns → ℕ → LocalRuns → Type 0
AllTakeIn state runs k after = (q : ℕ) → IsRegion state.grid q →
    (AreLinked state.grid k q × TakesIn state runs k q (after q))
    ⊎ ((¬ AreLinked state.grid k q) × (after q ≡ runs q))
