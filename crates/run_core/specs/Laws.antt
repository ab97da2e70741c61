-- What holds of all runs over regions.
use Rattle.std.specs.Prelude.{◌≡◌, ◌+◌, ◌<◌, ◌≤◌, List, [], ◌∷◌, length, ⊤}
use Rattle.event_stamps.specs.declared.Stamp.{Stamp}
use Rattle.event_rules.specs.declared.change.Limit.{Limit as Failure}
use Rattle.event_rules.specs.declared.outcome.Outcome.{Outcome}
use Rattle.event_rules.specs.declared.outcome.Outcome.TheVariants.{Limit as Fails}
use Rattle.cell_sequence.specs.Run.{CellRuns}
use Rattle.cell_sequence.specs.State.{CellStateData, IsCellState}
use Rattle.local_run.specs.Opening.{RegionData}
use Rattle.run_floors.specs.Floors.{IsAtFloor, AreOfOneRun}
use Rattle.commit_horizon.specs.Horizon.{LocalRuns, AreStanding, IsBound}
use Rattle.region_view.specs.declared.action.Action.{Action}
use Rattle.run_core.specs.declared.answers.Advance.{Advance}
use Rattle.run_core.specs.declared.answers.Advance.TheVariants.{Raised, End, Limit}
use Rattle.run_core.specs.Hearings.{Call, Hearings, Passes, entry_count, AllHeard, SameBases}
use Rattle.run_core.specs.Advances.{IsAdvance, Works}
use Rattle.run_core.specs.Simulates.{work_left}

-- what hearings keep
pub record AreKeptByHearings (state : CellStateData) (runs after : LocalRuns) : Type 0 where
  pub standing : AreStanding state after
  pub bound : (h : Stamp) → IsBound state runs h → IsBound state after h
  pub bases : SameBases runs after

-- regions that stand on a state go on standing on it, with every bound that they had, whatever they hear
-- from each other
abbrev pub HearingsKeepBounds : Type 0
HearingsKeepBounds = (state : CellStateData) (runs after : LocalRuns) (cs : List Call) →
    IsCellState state → AreStanding state runs → Hearings state runs cs after →
    AreKeptByHearings state runs after

-- after passes, of which the last rewinds none, each region has heard just what the others sent
abbrev pub PassesEndInAgreement : Type 0
PassesEndInAgreement = (state : CellStateData) (runs after : LocalRuns) (ps : List (List Call)) →
    Passes state runs ps after → AllHeard state after

-- there are at most as many passes as the regions had entries, plus one
abbrev pub PassesEnd : Type 0
PassesEnd = (state : CellStateData) (runs after : LocalRuns) (ps : List (List Call)) →
    Passes state runs ps after → length ps ≤ 1 + entry_count state.grid.regions runs

-- after an advance that isn't the last less is left of the run
abbrev pub AdvancesEnd : Type 0
AdvancesEnd = (old new : CellStateData) (runs : LocalRuns) (batch : List Action) → IsCellState old →
    IsAdvance old runs (Raised batch) new → work_left new < work_left old

-- these advances follow each other from a state, over whatever regions, and each but the last goes on
abbrev pub FollowEachOther : CellStateData → List Advance → Type 0
FollowEachOther old [] = ⊤
FollowEachOther old (Raised batch ∷ rest) =
    (runs : LocalRuns) × (new : CellStateData) × IsAdvance old runs (Raised batch) new × FollowEachOther new rest
FollowEachOther old (End batch ∷ rest) =
    (runs : LocalRuns) × (new : CellStateData) × IsAdvance old runs (End batch) new × (rest ≡ [])
FollowEachOther old (Limit batch limit ∷ rest) =
    (runs : LocalRuns) × (new : CellStateData) × IsAdvance old runs (Limit batch limit) new × (rest ≡ [])

-- there are at most as many of them as the cell run has actions from that state on, plus one
abbrev pub FewAdvances : Type 0
FewAdvances = (state : CellStateData) (advances : List Advance) (actions : List Action) (outcome : Outcome) →
    FollowEachOther state advances → CellRuns state.rules state.grid state.placed actions outcome →
    length advances ≤ length actions + 1

-- the limit that an advance answers is the one at which the cell run ends, right after the batch
abbrev pub LimitsEndTheRun : Type 0
LimitsEndTheRun = (old new : CellStateData) (runs : LocalRuns) (batch : List Action) (limit : Failure) →
    IsAdvance old runs (Limit batch limit) new →
    CellRuns old.rules old.grid old.placed batch (Fails limit)

-- an advance from a state whose floor comes after its last action leads to such a state of the same run
abbrev pub AdvancesStayAtFloors : Type 0
AdvancesStayAtFloors = (old new : CellStateData) (runs : LocalRuns) (answer : Advance) (left : List RegionData) →
    IsAtFloor old → IsAdvance old runs answer new → Works old runs answer new left →
    IsAtFloor new × AreOfOneRun old new
