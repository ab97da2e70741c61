-- What a region keeps besides its local run, so that it need not be found again.
use Rattle.std.specs.Prelude.{◌≡◌, ℕ, List, length, Option, Some, None, IfSome}
use Rattle.event_stamps.specs.declared.Stamp.{Stamp}
use Rattle.event_stamps.specs.Order.{Before}
use Rattle.cell_grid.specs.Grid.{IsRegion, AreLinked}
use Rattle.region_view.specs.Views.{ViewData}
use Rattle.region_queue.specs.Queue.{IsOf, StandsFor}
use Rattle.local_run.specs.declared.home.Home.{Home}
use Rattle.local_run.specs.declared.entry.Entry.{Entry}
use Rattle.region_core.specs.declared.live.Live.{Live}
use Rattle.region_parts.specs.declared.place.Place.{Place}
use Rattle.local_run.specs.LocalRun.{Local, At, Trails, trail_of, after_log, sent_to, IsDueOrEnd, IsRight}
use Rattle.region_parts.specs.Place.{IsPlace}
use Rattle.region_parts.specs.Inbox.{InboxData, taken_from}
use Rattle.local_run.specs.Opening.{RegionData}
use Rattle.local_run.specs.Taken.{taken_of}
use Rattle.event_log.specs.Logged.{entries_in, backs_in}
use Rattle.event_log.specs.Undoing.{undone}
use Rattle.event_log.specs.Traced.{IsTraced}

-- the view at the floor: the newest one with the whole log undone
abbrev pub base_in : Live → ViewData
base_in live = undone live.view (backs_in live.log)

-- the local run that is kept
abbrev pub run_in : Stamp → Live → Local
run_in floor live = record {
  floor = floor;
  base = base_in live;
  heard = live.inbox.heard;
  log = entries_in live.log;
}

-- a region that isn't spent
abbrev pub region_in : Place → Live → RegionData
region_in place live = record { home = place.home; floor = place.floor; run = Some (run_in place.floor live) }

-- the point at which the region begins
abbrev pub start_in : Live → At
start_in live = record { view = base_in live; waiting = live.inbox.heard }

-- the point after its whole log
abbrev pub now_in : Live → At
now_in live = after_log (start_in live) (entries_in live.log)

-- for each region there is a trail, and this many of its messages were taken in by the log
pub record IsInbox (home : Home) (log : List Entry) (inbox : InboxData) : Type 0 where
  pub regions : length inbox.heard ≡ home.grid.regions
  pub counts : length inbox.taken ≡ home.grid.regions
  pub taken : (q : ℕ) → IsRegion home.grid q → taken_from inbox q ≡ taken_of q log

-- for each linked region the messages that the log sends to it
pub record IsOutbox (home : Home) (base : ViewData) (log : List Entry) (sent : Trails) : Type 0 where
  pub regions : length sent ≡ home.grid.regions
  pub each : (q : ℕ) → IsRegion home.grid q → AreLinked home.grid home.number q →
      trail_of sent q ≡ sent_to home.grid q base log

-- the log leads from the view at the floor to the newest one, and back
abbrev pub HasTrace : Live → Type 0
HasTrace live = IsTraced (base_in live) live.view live.log

-- a right local run, and what is kept besides it follows from it
pub record IsBodyOf (home : Home) (floor : Stamp) (live : Live) : Type 0 where
  pub right : IsRight home (run_in floor live)
  pub inbox : IsInbox home (entries_in live.log) live.inbox
  pub sent : IsOutbox home (base_in live) (entries_in live.log) live.sent.items
  pub traced : HasTrace live
  pub queue : IsOf live.queue home.rules home.grid home.number
  pub stands : StandsFor live.queue (now_in live).view

-- the body of a region that has this place
pub record IsLive (p : Place) (live : Live) : Type 0 where
  pub place : IsPlace p
  pub body : IsBodyOf p.home p.floor live

-- what is due, or the end stamp if nothing is, is before a bound
abbrev pub HasDueBefore : Home → Stamp → Live → Type 0
HasDueBefore home bound live = (s : Stamp) × IsDueOrEnd home (now_in live) s × Before s bound

-- it isn't before the bound
abbrev pub HasDueLater : Home → Stamp → Live → Type 0
HasDueLater home bound live = (s : Stamp) × IsDueOrEnd home (now_in live) s × ¬ Before s bound

-- a bound is given, and what is due isn't before it
abbrev pub IsHeldBack : Home → Option Stamp → Live → Type 0
IsHeldBack home None live = ⊥
IsHeldBack home (Some bound) live = HasDueLater home bound live

-- a right local run, whatever it sent and took in, with the newest view and the queue of its log
pub record IsPartOf (home : Home) (floor : Stamp) (live : Live) : Type 0 where
  pub right : IsRight home (run_in floor live)
  pub traced : HasTrace live
  pub queue : IsOf live.queue home.rules home.grid home.number
  pub stands : StandsFor live.queue (now_in live).view

-- what is known while entries are taken back
pub record IsAlong (p : Place) (live : Live) : Type 0 where
  pub place : IsPlace p
  pub body : IsPartOf p.home p.floor live

-- what each region keeps
pub record IsSound (p : Place) (live : Option Live) : Type 0 where
  pub place : IsPlace p
  pub alive : IfSome live (IsLive p)
