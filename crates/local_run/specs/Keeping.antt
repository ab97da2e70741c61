-- What holds of every region, and what it tells of its run.
use Rattle.std.specs.Prelude.{◌≡◌, ℕ, List, [], Option, Some, None, IfSome}
use Rattle.event_stamps.specs.declared.Stamp.{Stamp}
use Rattle.event_stamps.specs.Order.{Before, end_stamp}
use Rattle.cell_grid.specs.Grid.{IsRegion, AreLinked}
use Rattle.region_view.specs.declared.rows.Message.{Message}
use Rattle.local_run.specs.declared.home.Home.{Home}
use Rattle.local_run.specs.declared.entry.Entry.{Entry}
use Rattle.local_run.specs.LocalRun.{Local, now_of, IsDueOrEnd, IsInPlace, IsRight, trail_of, sent_to}
use Rattle.local_run.specs.Opening.{RegionData}

-- it is one of a grid, its floor isn't after the end, and its run is right and begins there unless it is spent
pub record IsKept (region : RegionData) : Type 0 where
  pub place : IsInPlace region.home
  pub floor : ¬ Before (end_stamp region.home.rules.end) region.floor
  pub run : IfSome region.run (IsRight region.home)
  pub begins : IfSome region.run (λ run. run.floor ≡ region.floor)

-- ---- the log
-- the log of a local run; no entries if there is none
abbrev pub run_entries : Option Local → List Entry
run_entries None = []
run_entries (Some run) = run.log

-- the entries of the log; none if the region is spent
abbrev pub entries_of : RegionData → List Entry
entries_of region = run_entries region.run

-- ---- what is due
-- the due stamp, or the end stamp; without a local run, the floor
abbrev pub IsDueAt : Home → Stamp → Option Local → Stamp → Type 0
IsDueAt h floor None s = s ≡ floor
IsDueAt h floor (Some run) s = IsDueOrEnd h (now_of run) s

-- the due stamp, or the end stamp; for a spent region, the floor
abbrev pub IsDueIn : RegionData → Stamp → Type 0
IsDueIn region s = IsDueAt region.home region.floor region.run s

-- ---- what is sent and heard
-- messages may go from the one region to the other
abbrev pub SendsTo : Home → ℕ → Type 0
SendsTo h to = IsRegion h.grid to × AreLinked h.grid h.number to

-- messages may come to the region from that one
abbrev pub HearsOf : Home → ℕ → Type 0
HearsOf h from = IsRegion h.grid from × AreLinked h.grid from h.number

-- a region that isn't spent sent these messages to that one, to which it is linked
abbrev pub IsSent : RegionData → ℕ → List Message → Type 0
IsSent region to ms = (run : Local) × (region.run ≡ Some run) × SendsTo region.home to
    × (ms ≡ sent_to region.home.grid to run.base run.log)

-- a region that isn't spent heard these messages from that one, which is linked to it
abbrev pub IsHeard : RegionData → ℕ → List Message → Type 0
IsHeard region from ms = (run : Local) × (region.run ≡ Some run) × HearsOf region.home from
    × (ms ≡ trail_of run.heard from)
