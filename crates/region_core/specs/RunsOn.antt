-- Events of a region's own columns that run one after the other.
use Rattle.std.specs.Prelude.{◌≡◌, ℕ, zero, suc, ◌+◌, Bool, true, false, Option, Some, None, Err}
use Rattle.event_stamps.specs.declared.Stamp.{Stamp}
use Rattle.event_stamps.specs.Order.{Before, IsInRange}
use Rattle.event_stamps.specs.Least.{IsLeast}
use Rattle.event_rules.specs.declared.change.Limit.{Limit}
use Rattle.local_run.specs.declared.home.Home.{Home}
use Rattle.local_run.specs.declared.answers.Step.{Step}
use Rattle.local_run.specs.declared.answers.Step.TheVariants.{Ran}
use Rattle.local_run.specs.Answers.{IsInTurn, StepsTo}
use Rattle.local_run.specs.LocalRun.{Local, Trails, now_of, IsOwn, IsWaiting, ComesToInView}
use Rattle.region_view.specs.Views.{ViewData}
use Rattle.local_run.specs.Opening.{RegionData}
use Rattle.local_run.specs.Running.{GoesOn, IsDueBefore}
use Rattle.local_run.specs.Steps.{RegionSteps}
use Rattle.region_parts.specs.declared.place.Place.{Place}
use Rattle.region_core.specs.declared.running_on.RunSoFar.{RunSoFar}
use Rattle.region_core.specs.declared.live.Live.{Live}
use Rattle.region_core.specs.Live.{run_in, now_in, IsLive}

-- in the view the event fails at a limit
abbrev pub FailsLimit : Home → ViewData → Stamp → Type 0
FailsLimit h view s = (limit : Limit) × ComesToInView h view s (Err limit)

-- the event ran, or it fails at a limit and nothing changed
abbrev pub RunsOrFails : Place → Stamp → Live → Live → Bool → Type 0
RunsOrFails place s old new true = StepsTo place.home (run_in place.floor old) (Ran s) (run_in place.floor new)
RunsOrFails place s old new false = (new ≡ old) × FailsLimit place.home (now_in old).view s

-- the least native candidate, if there is one, is in turn
abbrev pub IsOwnInTurn : Home → Local → Type 0
IsOwnInTurn h r = (s : Stamp) → IsLeast (IsOwn h (now_of r).view) s → IsInTurn r s

-- no message before this stamp waits, nor at it
abbrev pub IsClear : Stamp → Trails → Type 0
IsClear limit waiting = (s : Stamp) → IsWaiting waiting s → ¬ Before s limit

-- before this stamp what is due is an event of its own columns, and in turn
pub record MayRunOn (place : Place) (limit : Stamp) (body : Live) : Type 0 where
  pub live : IsLive place body
  pub in_range : IsInRange limit
  pub clear : IsClear limit (now_in body).waiting
  pub turn : IsOwnInTurn place.home (run_in place.floor body)

-- the step runs this event, which is before a stamp
abbrev pub RunsOneBefore : Home → Stamp → Stamp → Local → Local → Type 0
RunsOneBefore h limit s old new = Before s limit × StepsTo h old (Ran s) new

-- the answer of the last step: if an event is given, that it ran this event
abbrev pub answer_after : Step → Option Stamp → Step
answer_after answer None = answer
answer_after answer (Some s) = Ran s

-- this many steps that did something, each of them while what is due is before a bound, lead from one answer to another
abbrev pub Follow : Stamp → ℕ → Step → RegionData → Step → RegionData → Type 0
Follow bound zero before old answer new = (answer ≡ before) × (new ≡ old)
Follow bound (suc rest) before old answer new = (last : Step) × (mid : RegionData)
    × Follow bound rest before old last mid × IsDueBefore bound mid × RegionSteps mid answer new × GoesOn answer

-- the steps that are made, and as many fewer are left
abbrev pub RunsOn : Stamp → RunSoFar → RegionData → RegionData → RunSoFar → Type 0
RunsOn bound given old new so_far = (made : ℕ) × (so_far.left + made ≡ given.left)
    × Follow bound made given.answer old so_far.answer new
