use Rattle.std.proofs.Common.{◌≡◌, ℕ, ap, sym, ◌∙◌, rules, Option, Some}
use Rattle.std.specs.FinMap as map
use Rattle.event_stamps.specs.declared.Stamp.{Stamp}
use Rattle.region_view.specs.declared.action.Placed.{Placed}
use Rattle.local_run.specs.declared.home.Home.{Home}
use Rattle.local_run.specs.Opening.{RegionData}
use Rattle.region_core.specs.declared.live.Live.{Live}
use Rattle.region_core.specs.Live.{base_in}
use Rattle.region_core.specs.FirstRows.{first_row}
use Rattle.region_core.proofs.Kept.{kept_is}
use Rattle.region_core.proofs.Shown.{seen_as}
use Rattle.region_core.proofs.region.Region.first_row.Goals as goal

-- a row of the view at the floor is what the region shows
row_shown : (home : Home) (floor : Stamp) (live : Live) (region : RegionData) (disk : ℕ) (row : Option Placed) →
    seen_as home floor (Some live) ≡ region → row ≡ map.get (base_in live) disk → row ≡ first_row region disk
row_shown home floor live region disk row is here =
    here ∙ ap (λ (r : RegionData). first_row r disk) is

pub returns-in-Some-clause-value : goal.returns-in-Some-clause-value
returns-in-Some-clause-value c =
    row_shown c.self.inside.place.home c.self.inside.place.floor c.in-Some.live c.args.self.now c.args.disk _
    (ap (seen_as c.self.inside.place.home c.self.inside.place.floor) (sym c.in-Some.is) ∙ c.self.view_is) (search rules)

pub returns-in-Some-clause-kept : goal.returns-in-Some-clause-kept
returns-in-Some-clause-kept c = kept_is _ _ _ c.self.view_is c.self.invariant

pub returns-in-None-clause-kept : goal.returns-in-None-clause-kept
returns-in-None-clause-kept c = kept_is _ _ _ c.self.view_is c.self.invariant
