-- Regions that are taken back from under the locks of a run.
use Rattle.std.proofs.Common.{◌≡◌, ℕ, List, Some, slice_get, sym, ◌∙◌, subst}
use Rattle.event_stamps.specs.declared.Stamp.{Stamp}
use Rattle.cell_sequence.specs.State.{CellStateData}
use Rattle.local_run.specs.Opening.{RegionData}
use Rattle.local_run.specs.Standing.{StandsOn}
use Rattle.local_run.specs.RunOn.{AreRunOn}
use Rattle.run_floors.specs.Floors.{AreOfOneRun}
use Rattle.run_floors.specs.Regions.{StandOfRun}
use Rattle.run_floors.proofs.Floors.{same_floor_begins_alike}
use Rattle.region_locks.specs.Holding.{AllTaken}

of_one_run : (opening a b : CellStateData) → AreOfOneRun opening a → AreOfOneRun opening b → AreOfOneRun a b
of_one_run opening a b one other = record {
  rules = sym one.rules ∙ other.rules;
  grid = sym one.grid ∙ other.grid;
  opening = sym one.opening ∙ other.opening;
}

-- what comes out with the floor of what was put in is that, run on
pub taken_run_on : (opening : CellStateData) (given worked : List RegionData) (first : RegionData) (floor : Stamp) →
    StandOfRun opening given → slice_get given 0 ≡ Some first → floor ≡ first.floor →
    AllTaken opening floor worked → AreRunOn given worked
taken_run_on opening given worked first floor of at_first is taken k old new at at_new =
    let take = taken k new at_new in
    let there = take.held take.alive in
    let stands = of.stand.each k old at in
    let again : StandsOn there.state k new
    = subst (λ (n : ℕ). StandsOn there.state n new) take.number_is there.stands in
    same_floor_begins_alike of.state there.state k old new of.at there.at
    (of_one_run opening of.state there.state of.one there.one) stands again
    (take.floor_is ∙ is ∙ (of.stand.each 0 first at_first).floor ∙ sym stands.floor)
