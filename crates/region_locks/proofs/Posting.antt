-- Posts of the regions of a run.
use Rattle.std.proofs.Common.{◌≡◌, ◌≢◌, ℕ, List, None, sym, ◌∙◌, subst}
use Rattle.event_stamps.specs.declared.Stamp.{Stamp}
use Rattle.region_view.specs.declared.rows.Message.{Message}
use Rattle.cell_sequence.specs.State.{CellStateData}
use Rattle.local_run.specs.declared.home.Home.{Home}
use Rattle.local_run.specs.LocalRun.{IsHearable}
use Rattle.local_run.specs.Opening.{RegionData, home_of}
use Rattle.region_core.specs.Posts.{home_at, IsPost}
use Rattle.region_locks.specs.Holding.{IsHeld}

-- at a number, it is the home of the run
home_in_run : (opening : CellStateData) (region : RegionData) (number : ℕ) → IsHeld opening region →
    region.run ≢ None → home_at region.home number ≡ home_of opening number
home_in_run opening region number held alive =
    let there = held alive in
    let rules : region.home.rules ≡ opening.rules = there.stands.rules ∙ sym there.one.rules in
    let grid : region.home.grid ≡ opening.grid = there.stands.grid ∙ sym there.one.grid in
    λ i. record { number = number; rules = rules i; grid = grid i }

-- what its sender brings up to date is still such
pub still_hearable : (opening : CellStateData) (region : RegionData) (from to : ℕ) (floor : Stamp)
    (old new : List Message) → IsHeld opening region → region.run ≢ None → region.home.number ≡ from →
    region.floor ≡ floor → (IsPost region to old → IsPost region to new) →
    IsHearable (home_of opening to) floor from old → IsHearable (home_of opening to) floor from new
still_hearable opening region from to floor old new held alive number same brings was =
    subst (λ (v : Type 0). v) (there new) (brings (subst (λ (v : Type 0). v) (sym (there old)) was))
  where
    there : (ms : List Message) → IsPost region to ms ≡ IsHearable (home_of opening to) floor from ms
    there ms =
        let home = home_in_run opening region to held alive in
        λ i. IsHearable (home i) (same i) (number i) ms

-- and the region to which it goes may hear it
pub hearable_there : (opening : CellStateData) (region : RegionData) (from to : ℕ) (floor : Stamp) (ms : List Message) →
    IsHeld opening region → region.run ≢ None → region.home.number ≡ to → region.floor ≡ floor →
    IsHearable (home_of opening to) floor from ms → IsHearable region.home region.floor from ms
hearable_there opening region from to floor ms held alive number same was =
    subst (λ (h : Home). IsHearable h region.floor from ms) (sym (home_in_run opening region region.home.number held alive))
    (subst (λ (n : ℕ). IsHearable (home_of opening n) region.floor from ms) (sym number)
    (subst (λ (f : Stamp). IsHearable (home_of opening to) f from ms) (sym same) was))
