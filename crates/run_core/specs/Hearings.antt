-- Regions that hear each other, one call after the other.
use Rattle.std.specs.Prelude.{◌≡◌, ◌≢◌, ◌⊎◌, ℕ, zero, suc, ◌+◌, ◌<◌, List, [], ◌∷◌, length}
use Rattle.cell_grid.specs.Grid.{IsRegion, AreLinked}
use Rattle.region_view.specs.declared.rows.Message.{Message}
use Rattle.region_messages.specs.Trails.{IsAmong}
use Rattle.cell_sequence.specs.State.{CellStateData}
use Rattle.local_run.specs.declared.answers.Hearing.{Hearing}
use Rattle.local_run.specs.declared.answers.Hearing.TheVariants.{Same, Rewound, Later, Apart}
use Rattle.local_run.specs.LocalRun.{trail_of, sent_to}
use Rattle.local_run.specs.Answers.{HearsFrom}
use Rattle.commit_horizon.specs.Horizon.{LocalRuns}

-- ---- calls
-- a region that hears another, and what it answers
pub record Call : Type 0 where
  pub hearer : ℕ
  pub sender : ℕ
  pub answer : Hearing

-- what region k sent to region q
abbrev pub sent_by : CellStateData → LocalRuns → ℕ → ℕ → List Message
sent_by state runs k q = sent_to state.grid q (runs k).base (runs k).log

-- the regions after a call: the hearer hears what the sender sent, and the others stay
pub record Hears (state : CellStateData) (runs : LocalRuns) (c : Call) (after : LocalRuns) : Type 0 where
  pub hearer : IsRegion state.grid c.hearer
  pub sender : IsRegion state.grid c.sender
  pub linked : AreLinked state.grid c.sender c.hearer
  pub hears : HearsFrom c.sender (sent_by state runs c.sender c.hearer) (runs c.hearer) c.answer
      (after c.hearer)
  pub others : (x : ℕ) → x ≢ c.hearer → after x ≡ runs x

-- the regions after some calls, one after the other
abbrev pub Hearings : CellStateData → LocalRuns → List Call → LocalRuns → Type 0
Hearings state runs [] after = (x : ℕ) → after x ≡ runs x
Hearings state runs (c ∷ cs) after =
    (mid : LocalRuns) × Hears state runs c mid × Hearings state mid cs after

-- ---- passes
-- calls, in any order, among which each region hears each one that is linked to it
abbrev pub IsPass : CellStateData → List Call → Type 0
IsPass state cs = (k q : ℕ) → IsRegion state.grid k → IsRegion state.grid q → AreLinked state.grid k q →
    (a : Hearing) × IsAmong (record { hearer = q; sender = k; answer = a }) cs

-- 1 if the hearer was rewound, else 0
abbrev pub one_if_rewound : Hearing → ℕ
one_if_rewound Same = 0
one_if_rewound (Rewound d) = 1
one_if_rewound (Later d) = 0
one_if_rewound Apart = 0

-- how many calls rewound their hearer
abbrev pub rewinds : List Call → ℕ
rewinds [] = 0
rewinds (c ∷ cs) = one_if_rewound c.answer + rewinds cs

-- how many entries the first n regions have
abbrev pub entry_count : ℕ → LocalRuns → ℕ
entry_count zero runs = 0
entry_count (suc n) runs = entry_count n runs + length (runs n).log

-- passes, up to the first that rewinds none
abbrev pub Passes : CellStateData → LocalRuns → List (List Call) → LocalRuns → Type 0
Passes state runs [] after = ⊥
Passes state runs (p ∷ ps) after = IsPass state p × ((mid : LocalRuns) × Hearings state runs p mid
    × (((rewinds p ≡ 0) × (ps ≡ []) × ((x : ℕ) → after x ≡ mid x))
    ⊎ ((0 < rewinds p) × Passes state mid ps after)))

-- each region has heard just what the others sent
abbrev pub AllHeard : CellStateData → LocalRuns → Type 0
AllHeard state runs = (k q : ℕ) → IsRegion state.grid k → IsRegion state.grid q →
    AreLinked state.grid k q → trail_of (runs q).heard k ≡ sent_by state runs k q

-- what no hearing changes
abbrev pub SameBases : LocalRuns → LocalRuns → Type 0
SameBases runs after = (x : ℕ) → ((after x).base ≡ (runs x).base) × ((after x).floor ≡ (runs x).floor)
