-- What an advance of the committed state answers, and how it works.
use Rattle.std.specs.Prelude.{◌≡◌, ◌≢◌, ◌⊎◌, ℕ, List, [], Err}
use Rattle.event_stamps.specs.declared.Stamp.{Stamp}
use Rattle.event_stamps.specs.Order.{end_stamp}
use Rattle.event_stamps.specs.Least.{HasNone}
use Rattle.event_rules.specs.declared.change.Limit.{Limit as Failure}
use Rattle.cell_grid.specs.Grid.{IsRegion}
use Rattle.region_view.specs.declared.action.Action.{Action}
use Rattle.cell_sequence.specs.Run.{CellSteps}
use Rattle.cell_sequence.specs.State.{CellStateData, IsCellState, IsCandidateOf, IsNextOf, ComesToInState, HasNoneBelow}
use Rattle.cell_sequence.specs.State.{followed_by, raised}
use Rattle.local_run.specs.declared.answers.Step.TheVariants.{Ran, Halted}
use Rattle.local_run.specs.LocalRun.{Local}
use Rattle.local_run.specs.Answers.{StepsTo}
use Rattle.local_run.specs.Opening.{RegionData, home_of}
use Rattle.commit_horizon.specs.Horizon.{LocalRuns, runs_of, AreStanding, IsBound}
use Rattle.commit_horizon.specs.Commits.{Commits}
use Rattle.run_core.specs.declared.answers.Advance.{Advance}
use Rattle.run_core.specs.declared.answers.Advance.TheVariants.{Raised, End, Limit}
use Rattle.run_core.specs.Hearings.{Call, Hearings, IsPass, Passes}
use Rattle.run_core.specs.Second.{rewound_to, IsLeastDue, AllTakeIn}

-- ---- the answer
-- the batch is what the cell run does next, at least all that lies below each bound of the regions as given
pub record Leads (old : CellStateData) (runs : LocalRuns) (batch : List Action)
    (new : CellStateData) : Type 0 where
  pub steps : CellSteps old.rules old.grid old.placed batch new.placed
  pub floor : Stamp
  pub state : new ≡ raised floor (followed_by old batch)
  pub cell : IsCellState new
  pub at_least : (h : Stamp) → IsBound old runs h → HasNoneBelow new h

-- the next event fails this limit
abbrev pub FailsNext : CellStateData → Failure → Type 0
FailsNext state limit = (s : Stamp) × IsNextOf state s × ComesToInState state s (Err limit)

-- some actions were committed; or no event is left after those that were, or the next one fails a limit
abbrev pub IsAdvance : CellStateData → LocalRuns → Advance → CellStateData → Type 0
IsAdvance old runs (Raised batch) new = Leads old runs batch new × (batch ≢ [])
IsAdvance old runs (End batch) new = Leads old runs batch new × HasNone (IsCandidateOf new)
IsAdvance old runs (Limit batch limit) new = Leads old runs batch new × FailsNext new limit

-- ---- how it works
-- a commit of regions with these runs, as they are
pub record CommitsAtOnce (old : CellStateData) (runs : LocalRuns) (batch : List Action) (new : CellStateData)
    (left : List RegionData) : Type 0 where
  pub given : List RegionData
  pub are : runs_of given ≡ runs
  pub commits : Commits old given batch new left

-- the first part: all hear each other until a pass rewinds none, and there is a commit
pub record FirstPart (old : CellStateData) (runs : LocalRuns) (batch : List Action) (new : CellStateData)
    (left : List RegionData) : Type 0 where
  pub passes : List (List Call)
  pub heard : List RegionData
  pub hear : Passes old runs passes (runs_of heard)
  pub commits : Commits old heard batch new left

-- region k, whose due stamp s is the least, makes a step: it runs the event, those linked to it take it in, and there
-- is a commit; or no event is left; or the event fails a limit
abbrev pub SecondAnswers : CellStateData → LocalRuns → ℕ → Stamp → Advance → CellStateData →
    List RegionData → Type 0
SecondAnswers old fresh k s (Raised batch) new left = (ran : LocalRuns) × (after : List RegionData)
    × StepsTo (home_of old k) (fresh k) (Ran s) (ran k) × ((q : ℕ) → q ≢ k → ran q ≡ fresh q)
    × AllTakeIn old ran k (runs_of after) × Commits old after batch new left
SecondAnswers old fresh k s (End batch) new left =
    (s ≡ end_stamp old.rules.end) × (batch ≡ []) × (new ≡ old)
SecondAnswers old fresh k s (Limit batch limit) new left = ((kept : Local)
    × StepsTo (home_of old k) (fresh k) (Halted limit) kept) × (batch ≡ []) × (new ≡ old)

-- the second part: all are taken back to the floor and hear each other, and the region whose due stamp is the least
-- makes a step
pub record SecondPart (old : CellStateData) (runs : LocalRuns) (answer : Advance) (new : CellStateData)
    (left : List RegionData) : Type 0 where
  pub back : LocalRuns
  pub rewound : (k : ℕ) → IsRegion old.grid k → back k ≡ rewound_to old.floor (runs k)
  pub pass : List Call
  pub is_pass : IsPass old pass
  pub fresh : LocalRuns
  pub hear : Hearings old back pass fresh
  pub dues : ℕ → Stamp
  pub home : ℕ
  pub least : IsLeastDue old fresh dues home
  pub answers : SecondAnswers old fresh home (dues home) answer new left

-- the first part, if it commits an action; or the second part after a first that commits none
abbrev pub WorksInParts : CellStateData → LocalRuns → Advance → CellStateData → List RegionData → Type 0
WorksInParts old runs answer new left =
    ((batch : List Action) × FirstPart old runs batch new left × (batch ≢ []) × (answer ≡ Raised batch))
    ⊎ ((mid : CellStateData) × (regions : List RegionData) × FirstPart old runs [] mid regions
    × AreStanding mid (runs_of regions) × SecondPart mid (runs_of regions) answer new left)

-- a commit at once, if it commits an action; or the two parts after one that commits none
abbrev pub Works : CellStateData → LocalRuns → Advance → CellStateData → List RegionData → Type 0
Works old runs answer new left =
    ((batch : List Action) × CommitsAtOnce old runs batch new left × (batch ≢ []) × (answer ≡ Raised batch))
    ⊎ ((mid : CellStateData) × (regions : List RegionData) × CommitsAtOnce old runs [] mid regions
    × AreStanding mid (runs_of regions) × WorksInParts mid (runs_of regions) answer new left)
