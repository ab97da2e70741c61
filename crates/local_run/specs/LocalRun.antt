-- The run of one region, ahead of the others: its log, entry by entry.
use Rattle.std.specs.Prelude.{◌≡◌, ◌⊎◌, ℕ, ◌≤◌, List, [], ◌∷◌, ⊤, length, Option, Some, None, Result, Ok}
use Rattle.std.specs.Prelude.{get_or, slice_set}
use Rattle.fixed_motion.specs.Rules.{IsChecked}
use Rattle.event_stamps.specs.declared.Stamp.{Stamp}
use Rattle.event_stamps.specs.Order.{Before, end_stamp}
use Rattle.event_stamps.specs.Least.{IsLeast, HasNone}
use Rattle.event_rules.specs.declared.change.Limit.{Limit}
use Rattle.cell_grid.specs.Grid.{GridData, IsGridOf, IsRegion, AreLinked}
use Rattle.region_view.specs.declared.action.Action.{Action}
use Rattle.region_view.specs.declared.rows.Message.{Message}
use Rattle.region_view.specs.Placing.{IsNative, IsValidPlacing}
use Rattle.region_view.specs.Views.{ViewData, rows_in}
use Rattle.region_view.specs.Acting.{stamp_of, ActsAs}
use Rattle.region_view.specs.Setting.{set_rows, after_action, AreRows, AreValidRows}
use Rattle.region_view.specs.Messages.{message_of}
use Rattle.region_messages.specs.Trails.{IsAmong, Rises}
use Rattle.local_run.specs.declared.home.Home.{Home}
use Rattle.local_run.specs.declared.entry.Entry.{Entry}
use Rattle.local_run.specs.declared.entry.Entry.TheVariants.{Native, Heard}
use Rattle.local_run.specs.declared.entry.TheConstants.{MAX_ENTRIES}
use Rattle.local_run.specs.Entries.{RiseFrom}

-- ---- what waits
-- a list of messages for each region, by its number
abbrev pub Trails : Type 0
Trails = List (List Message)

-- the messages of a region; none if there is no list for it
abbrev pub trail_of : Trails → ℕ → List Message
trail_of trails q = get_or trails q []

-- the messages without the first one
abbrev pub messages_after_first : List Message → List Message
messages_after_first [] = []
messages_after_first (m ∷ ms) = ms

-- without the first message of a region
abbrev pub without_first : Trails → ℕ → Trails
without_first trails q = slice_set trails q (messages_after_first (trail_of trails q))

-- a message with this stamp is there
unfoldable pub IsWaiting : Trails → Stamp → Type 0
IsWaiting trails s = (q : ℕ) × (m : Message) × IsAmong m (trail_of trails q) × (m.stamp ≡ s)

-- ---- the log
-- the point that a region has reached: its view, and the messages of each region that it hasn't taken in
pub record At : Type 0 where
  pub view : ViewData
  pub waiting : Trails

-- the point after an entry
abbrev pub after_entry : At → Entry → At
after_entry a (Native action) = record { view = after_action a.view action; waiting = a.waiting }
after_entry a (Heard q m) =
    record { view = set_rows a.view m.rows; waiting = without_first a.waiting q }

-- the point after a log
abbrev pub after_log : At → List Entry → At
after_log a [] = a
after_log a (e ∷ es) = after_log (after_entry a e) es

-- ---- moves
-- a native candidate of the view
unfoldable pub IsOwn : Home → ViewData → Stamp → Type 0
IsOwn h view s = IsNative h.rules h.grid h.number (rows_in view) s

-- the result of a native candidate in the view
abbrev pub ComesToInView : Home → ViewData → Stamp → Result Action Limit → Type 0
ComesToInView h view s r = ActsAs h.rules h.grid (rows_in view) s r

-- the stamp of a native candidate, or of a message that waits
abbrev pub IsOffered : Home → At → Stamp → Type 0
IsOffered h a s = IsOwn h a.view s ⊎ IsWaiting a.waiting s

-- the due stamp: the least of these
abbrev pub IsDue : Home → At → Stamp → Type 0
IsDue h a s = IsLeast (IsOffered h a) s

-- the due stamp, or the end stamp if nothing is due
abbrev pub IsDueOrEnd : Home → At → Stamp → Type 0
IsDueOrEnd h a s = IsDue h a s ⊎ (HasNone (IsOffered h a) × (s ≡ end_stamp h.rules.end))

-- the native candidate that is due, and no message with it
pub record IsNativeMove (h : Home) (a : At) (action : Action) : Type 0 where
  pub due : IsDue h a (stamp_of action)
  pub native : IsOwn h a.view (stamp_of action)
  pub alone : ¬ IsWaiting a.waiting (stamp_of action)
  pub comes : ComesToInView h a.view (stamp_of action) (Ok action)

-- the first message of region q, which is due, and nothing else with it
pub record IsHeardMove (h : Home) (a : At) (q : ℕ) (m : Message) : Type 0 where
  pub due : IsDue h a m.stamp
  pub first : (rest : List Message) × (trail_of a.waiting q ≡ m ∷ rest)
  pub alone : ¬ IsOwn h a.view m.stamp
  pub only : (r : ℕ) (n : Message) → IsAmong n (trail_of a.waiting r) → n.stamp ≡ m.stamp → r ≡ q

-- the entry is what is due, and nothing else is due with it
abbrev pub IsMove : Home → At → Entry → Type 0
IsMove h a (Native action) = IsNativeMove h a action
IsMove h a (Heard q m) = IsHeardMove h a q m

-- each entry is the move at its place
abbrev pub Moves : Home → At → List Entry → Type 0
Moves h a [] = ⊤
Moves h a (e ∷ es) = IsMove h a e × Moves h (after_entry a e) es

-- ---- what is sent
-- the messages with one before them, if there is one
abbrev pub prepended : Option Message → List Message → List Message
prepended None ms = ms
prepended (Some m) ms = m ∷ ms

-- what region q is told of the native entries, given for each the view before it
abbrev pub sent_to : GridData → ℕ → ViewData → List Entry → List Message
sent_to grid q view [] = []
sent_to grid q view (Native action ∷ es) =
    prepended (message_of grid q (rows_in view) action) (sent_to grid q (after_action view action) es)
sent_to grid q view (Heard r m ∷ es) = sent_to grid q (set_rows view m.rows) es

-- ---- the local run
-- the view at the floor, what was heard from then on, and the log
pub record Local : Type 0 where
  pub floor : Stamp
  pub base : ViewData
  pub heard : Trails
  pub log : List Entry

-- the point at which a local run begins
abbrev pub start_of : Local → At
start_of r = record { view = r.base; waiting = r.heard }

-- the point after the whole log
abbrev pub now_of : Local → At
now_of r = after_log (start_of r) r.log

-- what region q may send: messages that rise strictly, from the floor on and before the end, with valid rows; none if
-- the two aren't linked
pub record IsHearable (h : Home) (floor : Stamp) (q : ℕ) (ms : List Message) : Type 0 where
  pub rises : Rises ms
  pub from_floor : (m : Message) → IsAmong m ms → ¬ Before m.stamp floor
  pub before_end : (m : Message) → IsAmong m ms → Before m.stamp (end_stamp h.rules.end)
  pub rows : (m : Message) → IsAmong m ms → AreRows m.rows × AreValidRows h.rules h.grid m.rows
  pub linked : (m : Message) → IsAmong m ms → IsRegion h.grid q × AreLinked h.grid q h.number

-- checked rules, a grid of them, and one of its regions
pub record IsInPlace (h : Home) : Type 0 where
  pub checked : IsChecked h.rules
  pub grid : IsGridOf h.rules h.grid
  pub number : IsRegion h.grid h.number

-- a right local run
pub record IsRight (h : Home) (r : Local) : Type 0 where
  -- it begins in a valid view, not after the end
  pub base : IsValidPlacing h.rules h.grid (rows_in r.base)
  pub floor : ¬ Before (end_stamp h.rules.end) r.floor
  -- it heard what the others may send
  pub heard : (q : ℕ) → IsHearable h r.floor q (trail_of r.heard q)
  -- each entry is the move at its place
  pub moves : Moves h (start_of r) r.log
  -- their stamps rise strictly, from the floor on
  pub rises : RiseFrom r.floor r.log
  -- there are no more than a log holds
  pub few : length r.log ≤ MAX_ENTRIES
