-- What a commit makes final and leaves to be told.
use Rattle.std.specs.Prelude.{◌≡◌, List, Option, Some, None, map}
use Rattle.event_stamps.specs.declared.Stamp.{Stamp}
use Rattle.event_stamps.specs.Order.{Before}
use Rattle.event_stamps.specs.Ordered.{KeysRise}
use Rattle.region_view.specs.declared.action.Action.{Action}
use Rattle.region_view.specs.Acting.{stamp_of}
use Rattle.region_messages.specs.Trails.{IsAmong}
use Rattle.cell_sequence.specs.State.{CellStateData, IsCellState, last_stamp}
use Rattle.local_run.specs.declared.entry.Entry.{Entry}
use Rattle.local_run.specs.declared.entry.Entry.TheVariants.{Native}
use Rattle.local_run.specs.Entries.{entry_stamp, entries_below}
use Rattle.local_run.specs.Opening.{RegionData}
use Rattle.local_run.specs.Keeping.{entries_of}
use Rattle.commit_horizon.specs.declared.cutting.Final.{Final}
use Rattle.commit_horizon.specs.Bounds.{later_of}
use Rattle.commit_horizon.specs.Commits.{Commits}

-- ---- logs
-- what each region did before a stamp
abbrev pub logs_below : Stamp → List RegionData → List (List Entry)
logs_below to regions = map (λ region. entries_below to (entries_of region)) regions

-- the stamps of each log rise
abbrev pub AllRise : List (List Entry) → Type 0
AllRise logs = (log : List Entry) → IsAmong log logs → KeysRise entry_stamp log

-- ---- the last stamp
-- an action of a log has it
abbrev pub HasActionAt : List Entry → Stamp → Type 0
HasActionAt log s = (x : Action) × IsAmong (Native x) log × (stamp_of x ≡ s)

-- an action of one of some logs has it
abbrev pub SomeHasStamp : List (List Entry) → Stamp → Type 0
SomeHasStamp logs s = (log : List Entry) × IsAmong log logs × HasActionAt log s

-- P holds for the stamp, and for none after it; if there is no stamp, for none at all
abbrev pub IsLatest : (Stamp → Type 0) → Option Stamp → Type 0
IsLatest P None = (s : Stamp) → ¬ P s
IsLatest P (Some last) = P last × ((s : Stamp) → P s → ¬ Before last s)

-- the later of two; of one, that one; none if both are none
abbrev pub latest_of : Option Stamp → Option Stamp → Option Stamp
latest_of None b = b
latest_of (Some s) None = Some s
latest_of (Some s) (Some t) = Some (later_of s t)

-- ---- a commit
-- a batch was committed and is what is to be told; the answer has the floor of the new state and the stamp of the
-- batch's last action, if there is any
pub record FinalMade (old : CellStateData) (given : List RegionData) (made : Final) (batch : List Action)
    (left : List RegionData) : Type 0 where
  pub new : CellStateData
  pub cell : IsCellState new
  pub floor : new.floor ≡ made.floor
  pub commits : Commits old given batch new left
  pub is_last : made.last ≡ last_stamp batch
