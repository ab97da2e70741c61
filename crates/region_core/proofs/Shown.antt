-- What a region shows of what it sends and heard.
use Rattle.std.proofs.Common.{◌≡◌, ◌⊎◌, inr, ℕ, ◌<◌, Bool, true, false, List, [], length, Option, Some, None, MatchOption, ap, sym, ◌∙◌, subst, refl}
use Rattle.std.specs.Prelude.{◌↔◌, IsTrue, is_some, not, option_map, option_copied, slice_get}
use Rattle.std.proofs.lemmas.Bool.{false≢true}
use Rattle.std.proofs.lemmas.Option.{none-some, same_Some, slice_get-get_or}
use Rattle.std.specs.Borrow.{Bor}
use Rattle.event_stamps.specs.declared.Stamp.{Stamp}
use Rattle.region_view.specs.declared.rows.Message.{Message}
use Rattle.local_run.specs.declared.home.Home.{Home}
use Rattle.event_log.specs.Logged.{entries_in}
use Rattle.region_core.specs.declared.live.Live.{Live}
use Rattle.local_run.specs.LocalRun.{Trails, trail_of, sent_to}
use Rattle.local_run.specs.Opening.{RegionData}
use Rattle.region_core.specs.Live.{base_in, run_in}
use Rattle.local_run.specs.Keeping.{SendsTo, HearsOf, IsSent, IsHeard}

abbrev pub seen_as : Home → Stamp → Option Live → RegionData
seen_as home floor live = record { home = home; floor = floor; run = option_map (run_in floor) live }

pub sent_shown : {R : Type 0} (now : R → List Message) (result : Option R) (home : Home) (floor : Stamp)
    (o : Option Live) (live : Live) (region : RegionData) (to : ℕ) → seen_as home floor o ≡ region →
    o ≡ Some live →
    MatchOption result (¬ SendsTo home to)
    (λ t. SendsTo home to × (now t ≡ sent_to home.grid to (base_in live) (entries_in live.log))) →
    MatchOption result ((region.run ≡ None) ⊎ ¬ SendsTo region.home to) (λ t. IsSent region to (now t))
sent_shown now None home floor o live region to is here h =
    subst (λ (r : RegionData). (r.run ≡ None) ⊎ ¬ SendsTo r.home to) is (inr h)
sent_shown now (Some t) home floor o live region to is here h =
    subst (λ (r : RegionData). IsSent r to (now t)) is
    (run_in floor live, ap (option_map (run_in floor)) here, h.0, h.1)

pub heard_shown : {R : Type 0} (now : R → List Message) (result : Option R) (home : Home) (floor : Stamp)
    (o : Option Live) (live : Live) (region : RegionData) (from : ℕ) → seen_as home floor o ≡ region →
    o ≡ Some live →
    MatchOption result (¬ HearsOf home from)
    (λ t. HearsOf home from × (now t ≡ trail_of live.inbox.heard from)) →
    MatchOption result ((region.run ≡ None) ⊎ ¬ HearsOf region.home from)
    (λ t. IsHeard region from (now t))
heard_shown now None home floor o live region from is here h =
    subst (λ (r : RegionData). (r.run ≡ None) ⊎ ¬ HearsOf r.home from) is (inr h)
heard_shown now (Some t) home floor o live region from is here h =
    subst (λ (r : RegionData). IsHeard r from (now t)) is
    (run_in floor live, ap (option_map (run_in floor)) here, h.0, h.1)

-- whether it is spent
pub spent_shown : (result : Bool) (home : Home) (floor : Stamp) (o : Option Live) (region : RegionData) →
    seen_as home floor o ≡ region → is_some o ≡ not result → IsTrue result ↔ (region.run ≡ None)
spent_shown true home floor None region is none =
    (λ _. subst (λ (r : RegionData). r.run ≡ None) is refl, λ _. refl)
spent_shown false home floor None region is none = absurd (false≢true none)
spent_shown true home floor (Some live) region is none = absurd (false≢true (sym none))
spent_shown false home floor (Some live) region is none = (
  λ never. absurd (false≢true never),
  λ gone. absurd (none-some (run_in floor live) (sym (ap (λ (r : RegionData). r.run) is ∙ gone))),
)

-- the trail of a region that there is
pub trail_found : (o : Option (Bor (List Message))) (ts : Trails) (q : ℕ) (P Q : Type 0) →
    option_copied o ≡ slice_get ts q → q < length ts → Q → MatchOption o P (λ t. Q × (t.now ≡ trail_of ts q))
trail_found None ts q P Q is within given = absurd (none-some _ (is ∙ slice_get-get_or ts q [] within))
trail_found (Some t) ts q P Q is within given =
    (given, same_Some t.now (trail_of ts q) (is ∙ slice_get-get_or ts q [] within))
