-- The bounds of the commit horizon, region by region.
use Rattle.std.specs.Prelude.{◌≡◌, ◌↔◌, ◌⊎◌, ℕ, ◌<◌, List, ⊤, Option, Some, None, length, slice_get, if◌then◌else◌}
use Rattle.event_stamps.specs.declared.Stamp.{Stamp}
use Rattle.event_stamps.specs.Order.{Before, end_stamp}
use Rattle.region_view.specs.declared.rows.Message.{Message}
use Rattle.region_messages.specs.Trails.{is_before, AgreeBelow}
use Rattle.local_run.specs.declared.home.Home.{Home}
use Rattle.local_run.specs.LocalRun.{Local, now_of, IsOffered}
use Rattle.local_run.specs.Opening.{RegionData}
use Rattle.local_run.specs.Keeping.{IsSent, IsHeard}

-- not after a stamp, if there is one
abbrev pub IsUpToStamp : Option Stamp → Stamp → Type 0
IsUpToStamp None t = ⊤
IsUpToStamp (Some s) t = ¬ Before s t

-- it holds for exactly the stamps up to this one; for all stamps, if there is none
pub record HoldsUpTo (P : Stamp → Type 0) (bound : Option Stamp) : Type 0 where
  pub exactly : (t : Stamp) → (P t ↔ IsUpToStamp bound t)

-- it holds for the first n regions
abbrev pub OfFirst : (RegionData → Stamp → Type 0) → List RegionData → ℕ → Stamp → Type 0
OfFirst P regions n t = (k : ℕ) (region : RegionData) → k < n → slice_get regions k ≡ Some region →
    P region t

-- it holds for all regions
abbrev pub OfAll : (RegionData → Stamp → Type 0) → List RegionData → Stamp → Type 0
OfAll P regions t = OfFirst P regions (length regions) t

-- not after the end, nor after both the floor and what is due; for a spent region, not after the floor
abbrev pub IsUpToDueOf : Home → Stamp → Option Local → Stamp → Type 0
IsUpToDueOf home floor None t = ¬ Before floor t
IsUpToDueOf home floor (Some run) t = (¬ Before (end_stamp home.rules.end) t)
    × ((s : Stamp) → IsOffered home (now_of run) s → (¬ Before s t) ⊎ (¬ Before floor t))

-- the same for a region, by its home, its floor and its run
abbrev pub IsUpToDue : RegionData → Stamp → Type 0
IsUpToDue region t = IsUpToDueOf region.home region.floor region.run t

-- what the one sent and what the other heard of it agree before the stamp
abbrev pub AgreeOn : RegionData → RegionData → Stamp → Type 0
AgreeOn sender hearer t = (sent heard : List Message) → IsSent sender hearer.home.number sent →
    IsHeard hearer sender.home.number heard → AgreeBelow t sent heard

-- the same for what a region sent and what each heard of it
abbrev pub AllAgreeWith : List RegionData → RegionData → Stamp → Type 0
AllAgreeWith regions sender t = OfAll (AgreeOn sender) regions t

-- the same for what each region sent and what each heard of it
abbrev pub AllAgree : List RegionData → Stamp → Type 0
AllAgree regions t = OfAll (AllAgreeWith regions) regions t

-- not after the end, nor after what the regions have due, nor after a disagreement
abbrev pub IsUpToAll : Stamp → List RegionData → Stamp → Type 0
IsUpToAll end regions t = (¬ Before end t) × OfAll IsUpToDue regions t × AllAgree regions t

-- the later of two stamps
abbrev pub later_of : Stamp → Stamp → Stamp
later_of s t = if is_before s t then t else s
