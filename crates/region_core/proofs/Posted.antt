-- A copy of what a region sends may be heard, once it is brought up to date.
use Rattle.std.proofs.Common.{◌≡◌, ◌⊎◌, inl, inr, ℕ, List, Option, sym, subst}
use Rattle.event_stamps.specs.declared.Stamp.{Stamp}
use Rattle.region_view.specs.declared.rows.Message.{Message}
use Rattle.region_messages.specs.Trails.{IsAmong, Rises}
use Rattle.local_run.specs.declared.home.Home.{Home}
use Rattle.local_run.specs.LocalRun.{IsInPlace, IsHearable, trail_of}
use Rattle.local_run.specs.Opening.{RegionData}
use Rattle.local_run.specs.Keeping.{SendsTo}
use Rattle.local_run.proofs.Valid.{sent_hearable}
use Rattle.region_core.specs.declared.live.Live.{Live}
use Rattle.region_core.specs.Live.{run_in, IsBodyOf}
use Rattle.region_core.specs.Posts.{home_at, IsPost}
use Rattle.region_core.proofs.Shown.{seen_as}

-- its messages are of two lists
abbrev pub IsOfBoth : List Message → List Message → List Message → Type 0
IsOfBoth first second ms = (m : Message) → IsAmong m ms → IsAmong m first ⊎ IsAmong m second

of_both : (P : Message → Type 0) (first second ms : List Message) → IsOfBoth first second ms →
    ((m : Message) → IsAmong m first → P m) → ((m : Message) → IsAmong m second → P m) →
    (m : Message) → IsAmong m ms → P m
of_both P first second ms either one other m among = elim (either m among) [
  | inl was ↦ one m was
  | inr is ↦ other m is
]

both_hearable : (h : Home) (floor : Stamp) (k : ℕ) (first second ms : List Message) → Rises ms →
    IsOfBoth first second ms → IsHearable h floor k first → IsHearable h floor k second → IsHearable h floor k ms
both_hearable h floor k first second ms rises either one other = record {
  rises = rises;
  from_floor = of_both _ first second ms either one.from_floor other.from_floor;
  before_end = of_both _ first second ms either one.before_end other.before_end;
  rows = of_both _ first second ms either one.rows other.rows;
  linked = of_both _ first second ms either one.linked other.linked;
}

-- what is kept of what goes to a region may be heard there
sent_is_post : (home : Home) (floor : Stamp) (live : Live) (to : ℕ) → IsInPlace home → IsBodyOf home floor live →
    SendsTo home to → IsHearable (home_at home to) floor home.number (trail_of live.sent.items to)
sent_is_post home floor live to place alive sends =
    subst (IsHearable (home_at home to) floor home.number) (sym (alive.sent.each to sends.0 sends.1))
    (sent_hearable home (run_in floor live) to place alive.right sends.1)

pub posted_on : (home : Home) (floor : Stamp) (o : Option Live) (live : Live) (region : RegionData) (to : ℕ)
    (old new : List Message) → seen_as home floor o ≡ region → IsInPlace home → IsBodyOf home floor live →
    SendsTo home to → (Rises old → Rises new) → IsOfBoth old (trail_of live.sent.items to) new →
    IsPost region to old → IsPost region to new
posted_on home floor o live region to old new here place alive sends rises either =
    subst (λ (r : RegionData). IsPost r to old → IsPost r to new) here
    (λ was. both_hearable (home_at home to) floor home.number old (trail_of live.sent.items to) new
    (rises was.rises) either was (sent_is_post home floor live to place alive sends))
