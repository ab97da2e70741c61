-- Passes of hearings over regions that stand on a state.
use Rattle.std.specs.Prelude.{◌≡◌, ℕ, ◌<◌, Bool, true, false, nat_lt, List}
use Rattle.cell_grid.specs.Grid.{GridData, AreLinked}
use Rattle.region_messages.specs.Trails.{IsAmong}
use Rattle.cell_sequence.specs.State.{CellStateData}
use Rattle.local_run.specs.declared.answers.Hearing.{Hearing}
use Rattle.local_run.specs.declared.answers.Hearing.TheVariants.{Same, Rewound, Later, Apart}
use Rattle.local_run.specs.Opening.{RegionData}
use Rattle.commit_horizon.specs.Horizon.{runs_of, AllStand}
use Rattle.run_core.specs.Hearings.{Call, Hearings, rewinds, Passes}

-- regions of this grid stand on a state
pub record StandOn (grid : GridData) (regions : List RegionData) (state : CellStateData) : Type 0 where
  pub grid_is : state.grid ≡ grid
  pub stand : AllStand state regions

-- it holds of each state on which regions of this grid stand
abbrev pub OnEachState : GridData → List RegionData → (CellStateData → Type 0) → Type 0
OnEachState grid regions P = (state : CellStateData) → StandOn grid regions state → P state

-- whether the hearer was rewound
abbrev pub is_rewound : Hearing → Bool
is_rewound Same = false
is_rewound (Rewound d) = true
is_rewound (Later d) = false
is_rewound Apart = false

-- calls, for which P holds, led from these regions to those; `more` says whether one rewound its hearer
pub record Heard (state : CellStateData) (old new : List RegionData) (more : Bool)
    (P : List Call → Type 0) : Type 0 where
  pub calls : List Call
  pub hearings : Hearings state (runs_of old) calls (runs_of new)
  pub tells : more ≡ nat_lt 0 (rewinds calls)
  pub stand : AllStand state new
  pub covers : P calls

-- the same on each state on which the first regions stand, by what is to hold of the calls there
abbrev pub HeardOn : GridData → List RegionData → List RegionData → Bool → (CellStateData → List Call → Type 0) → Type 0
HeardOn grid old new more P = OnEachState grid old (λ state. Heard state old new more (P state))

-- region q hears region k, if they are linked
abbrev pub HearsOne : CellStateData → ℕ → ℕ → List Call → Type 0
HearsOne state q k calls = AreLinked state.grid k q →
    (a : Hearing) × IsAmong (record { hearer = q; sender = k; answer = a }) calls

-- region q hears each of the first j
abbrev pub HearsUpTo : CellStateData → ℕ → ℕ → List Call → Type 0
HearsUpTo state q j calls = (k : ℕ) → k < j → HearsOne state q k calls

-- each of the first i hears each region
abbrev pub AllHearUpTo : CellStateData → ℕ → List Call → Type 0
AllHearUpTo state i calls = (q : ℕ) → q < i → HearsUpTo state q state.grid.regions calls

-- passes, of which only the last rewinds none, led from these regions to those
pub record Agrees (state : CellStateData) (old new : List RegionData) : Type 0 where
  pub passes : List (List Call)
  pub hear : Passes state (runs_of old) passes (runs_of new)

-- they did so, and still stand on the state
pub record AgreeAndStand (state : CellStateData) (old new : List RegionData) : Type 0 where
  pub agree : Agrees state old new
  pub stand : AllStand state new
