-- Runs of regions that go on from a state of the cell run, and what is left of them after its next action.
use Rattle.std.proofs.Common.{◌≡◌, ◌≢◌, ◌⊎◌, ℕ, List, [], ◌∷◌, ◌++◌, Some, None, Result}
use Rattle.std.specs.Prelude.{if◌then◌else◌, ⊤}
use Rattle.event_stamps.specs.declared.Stamp.{Stamp}
use Rattle.event_stamps.specs.Order.{Before}
use Rattle.event_rules.specs.declared.change.Limit.{Limit}
use Rattle.cell_grid.specs.Grid.{IsRegion, AreLinked}
use Rattle.region_view.specs.declared.action.Action.{Action}
use Rattle.region_view.specs.declared.rows.Message.{Message}
use Rattle.region_view.specs.Acting.{stamp_of}
use Rattle.region_view.specs.Views.{ViewData, rows_in}
use Rattle.region_view.specs.Setting.{set_rows, after_action}
use Rattle.region_view.specs.Messages.{message_of}
use Rattle.region_messages.specs.Trails.{is_before, IsAmong, AgreeBelow}
use Rattle.cell_sequence.specs.State.{CellStateData, IsCandidateOf, ComesToInState, HasNoneBelow, followed}
use Rattle.cell_sequence.specs.Laws.{Sees, IsNextAction, IsHomeOf}
use Rattle.local_run.specs.declared.entry.Entry.{Entry}
use Rattle.local_run.specs.declared.entry.Entry.TheVariants.{Native}
use Rattle.local_run.specs.Entries.{entry_stamp, RiseFrom}
use Rattle.local_run.specs.LocalRun.{Local, trail_of, after_entry, after_log, start_of, now_of}
use Rattle.local_run.specs.LocalRun.{Moves, IsOwn, IsOffered, sent_to}
use Rattle.local_run.specs.LocalRun.{ComesToInView as ComesToIn}
use Rattle.local_run.specs.Opening.{home_of}
use Rattle.local_run.proofs.Among.{AllRise}
use Rattle.local_run.proofs.Logs.{AllBefore}
use Rattle.commit_horizon.specs.Horizon.{LocalRuns}

-- how a state of the cell run and its regions correspond
pub record CellLaws (state : CellStateData) : Type 0 where
  -- the native candidates of a view are the events whose home the region is, with the same results
  pub native : (k : ℕ) (view : ViewData) (s : Stamp) → IsRegion state.grid k → Sees state k view →
      IsOwn (home_of state k) view s → IsCandidateOf state s × IsHomeOf state s k
  pub candidate : (k : ℕ) (view : ViewData) (s : Stamp) → Sees state k view → IsCandidateOf state s →
      IsHomeOf state s k → IsOwn (home_of state k) view s
  pub comes : (k : ℕ) (view : ViewData) (s : Stamp) (r : Result Action Limit) → IsRegion state.grid k →
      Sees state k view → IsOwn (home_of state k) view s → ComesToIn (home_of state k) view s r →
      ComesToInState state s r
  -- an event has one home, the next one has one action, and none is before the floor
  pub homed : (s : Stamp) → IsCandidateOf state s → (k : ℕ) × IsHomeOf state s k
  pub one_home : (s : Stamp) (k q : ℕ) → IsCandidateOf state s → IsHomeOf state s k → IsHomeOf state s q →
      k ≡ q
  pub one_action : (x y : Action) → IsNextAction state x → IsNextAction state y → x ≡ y
  pub floor : (s : Stamp) → IsCandidateOf state s → ¬ Before s state.floor
  -- what the regions see of the next action: its home, one that is told of it, and one that isn't
  pub view_home : (k : ℕ) (view : ViewData) (x : Action) → IsNextAction state x →
      IsHomeOf state (stamp_of x) k → Sees state k view → Sees (followed state x) k (after_action view x)
  pub view_told : (k q : ℕ) (view seen : ViewData) (x : Action) (m : Message) → IsNextAction state x →
      IsHomeOf state (stamp_of x) k → Sees state k view → Sees state q seen →
      message_of state.grid q (rows_in view) x ≡ Some m → Sees (followed state x) q (set_rows seen m.rows)
  pub view_kept : (k q : ℕ) (view seen : ViewData) (x : Action) → IsNextAction state x →
      IsHomeOf state (stamp_of x) k → Sees state k view → Sees state q seen → k ≢ q →
      IsRegion state.grid q → (AreLinked state.grid k q → message_of state.grid q (rows_in view) x ≡ None) →
      Sees (followed state x) q seen

-- a right run that begins in the region's view of the state, and after which nothing is due before h, unless
-- h isn't after the floor
pub record GoesOn (state : CellStateData) (h : Stamp) (k : ℕ) (run : Local) : Type 0 where
  pub base : Sees state k run.base
  pub moves : Moves (home_of state k) (start_of run) run.log
  pub rises : RiseFrom run.floor run.log
  pub due : (s : Stamp) → IsOffered (home_of state k) (now_of run) s →
      (¬ Before s h) ⊎ (¬ Before state.floor h)
  pub trails : AllRise run.heard
  pub linked : (q : ℕ) (m : Message) → IsAmong m (trail_of run.heard q) →
      IsRegion state.grid q × AreLinked state.grid q k

-- what one region sent and what another heard from it agree below h
abbrev pub Agree : CellStateData → Stamp → LocalRuns → Type 0
Agree state h runs = (k q : ℕ) → IsRegion state.grid k → IsRegion state.grid q → AreLinked state.grid k q →
    AgreeBelow h (sent_to state.grid q (runs k).base (runs k).log) (trail_of (runs q).heard k)

pub record AllGoOn (state : CellStateData) (h : Stamp) (runs : LocalRuns) : Type 0 where
  pub each : (k : ℕ) → IsRegion state.grid k → GoesOn state h k (runs k)
  pub agree : Agree state h runs

-- ---- what is left
-- what is left of a run after its first entry
abbrev pub after_first : Local → Entry → List Entry → Local
after_first run e es = record {
  floor = run.floor;
  base = (after_entry (start_of run) e).view;
  heard = (after_entry (start_of run) e).waiting;
  log = es;
}

abbrev pub past_by : Stamp → Local → List Entry → Local
past_by t run [] = run
past_by t run (e ∷ es) = if is_before t (entry_stamp e) then run else after_first run e es

-- what is left of a run, no entry of which is before t, after the entry at t, if there is one
unfoldable pub past : Stamp → Local → Local
past t run = past_by t run run.log

-- a run is what is left of another after some entries before h
pub record IsRestOf (h : Stamp) (whole run : Local) : Type 0 where
  pub done : List Entry
  pub log : whole.log ≡ done ++ run.log
  pub at : start_of run ≡ after_log (start_of whole) done
  pub before : AllBefore h done

-- ---- the central step
-- the first entry isn't before the stamp
abbrev pub HeadNotBefore : Stamp → List Entry → Type 0
HeadNotBefore t [] = ⊤
HeadNotBefore t (e ∷ es) = ¬ Before (entry_stamp e) t

-- no native entry of the regions is before the stamp
abbrev pub NoneBefore : CellStateData → LocalRuns → Stamp → Type 0
NoneBefore state runs t = (q : ℕ) (x : Action) → IsRegion state.grid q → IsAmong (Native x) (runs q).log →
    ¬ Before (stamp_of x) t

-- a native entry before which no other comes
pub record IsLeastEntry (state : CellStateData) (runs : LocalRuns) (k : ℕ) (b : Action) : Type 0 where
  pub within : IsRegion state.grid k
  pub among : IsAmong (Native b) (runs k).log
  pub least : NoneBefore state runs (stamp_of b)

-- if the least native entry is before h, it is the next action of the cell run, and what is left of the regions after
-- it goes on from the state after it
abbrev pub CentralStep : Type 0
CentralStep = (state : CellStateData) (h : Stamp) (runs : LocalRuns) (k : ℕ) (b : Action) → CellLaws state →
    AllGoOn state h runs → IsLeastEntry state runs k b → Before (stamp_of b) h →
    IsNextAction state b × IsHomeOf state (stamp_of b) k
    × AllGoOn (followed state b) h (λ q. past (stamp_of b) (runs q))

-- if no native entry is before h, no event of the state is, nor any entry
abbrev pub CentralEnd : Type 0
CentralEnd = (state : CellStateData) (h : Stamp) (runs : LocalRuns) → CellLaws state → AllGoOn state h runs →
    NoneBefore state runs h → HasNoneBelow state h
    × ((q : ℕ) → IsRegion state.grid q → HeadNotBefore h (runs q).log)
