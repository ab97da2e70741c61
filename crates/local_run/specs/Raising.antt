-- A region after its floor is raised.
use Rattle.std.specs.Prelude.{◌≡◌, ℕ, map, option_map}
use Rattle.event_stamps.specs.declared.Stamp.{Stamp}
use Rattle.event_stamps.specs.Order.{Before}
use Rattle.region_messages.specs.Trails.{from}
use Rattle.local_run.specs.declared.home.Home.{Home}
use Rattle.local_run.specs.Entries.{entries_below, entries_from}
use Rattle.local_run.specs.LocalRun.{Local, start_of, now_of, after_log}
use Rattle.local_run.specs.LocalRun.{IsWaiting, IsRight, sent_to}
use Rattle.local_run.specs.Opening.{RegionData}

-- the same local run from a later floor on: it begins in the view after the entries before the stamp, and
-- keeps what it heard and did from there on
abbrev pub raised_run : Stamp → Local → Local
raised_run to run = record {
  floor = to;
  base = (after_log (start_of run) (entries_below to run.log)).view;
  heard = map (from to) run.heard;
  log = entries_from to run.log;
}

-- the same region with its local run raised
abbrev pub raised_region : Stamp → RegionData → RegionData
raised_region to region = record {
  home = region.home;
  floor = to;
  run = option_map (raised_run to) region.run;
}

-- no message that waits is before a stamp
abbrev pub HasNoneWaitingBelow : Stamp → Local → Type 0
HasNoneWaitingBelow to run = (s : Stamp) → IsWaiting (now_of run).waiting s → ¬ Before s to

-- a right local run stays right, has the same view and the same messages waiting, and sends what it sent from there on
pub record IsRaised (h : Home) (to : Stamp) (r : Local) : Type 0 where
  pub right : IsRight h (raised_run to r)
  pub now : now_of (raised_run to r) ≡ now_of r
  pub sent : (q : ℕ) → sent_to h.grid q (raised_run to r).base (raised_run to r).log
      ≡ from to (sent_to h.grid q r.base r.log)
