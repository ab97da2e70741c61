use Rattle.std.proofs.Common.{◌≡◌, ◌+◌, ◌<◌, List, sym, ap, ◌∙◌, subst, arith}
use Rattle.cell_grid.specs.Grid.{GridData}
use Rattle.cell_sequence.specs.State.{CellStateData}
use Rattle.local_run.specs.Opening.{RegionData, IsOpened}
use Rattle.commit_horizon.proofs.Adopting.{StandUpTo, none_stand, one_more_stands, opened_stands}
use Rattle.commit_horizon.proofs.committed.Committed.open_all.Goals as goal

pub loop-number-init : goal.loop-number-init
loop-number-init c = subst (StandUpTo c.args.self.now 0)
    (sym {A = List RegionData} c.new-regions.ensures.items) (none_stand c.args.self.now)

pub open-requires : goal.open-requires
open-requires c = subst (λ n. c.loop-number.number < n)
    (c.regions-number-end.ensures.value ∙ ap (λ (grid : GridData). grid.regions) c.grid.ensures.value)
    c.loop-number-test.true

pub loop-number-preserved : goal.loop-number-preserved
loop-number-preserved c =
    let state = c.args.self.now in
    let number = c.loop-number.number in
    let region = c.in_ok-open.field-0 in
    subst (StandUpTo state (number + 1)) (sym {A = List RegionData} c.in_ok-push.ensures.items)
    (one_more_stands state number c.loop-number.regions.items region c.loop-number.invariant
    (opened_stands state number region
    (subst (λ (v : CellStateData). IsOpened v number region) c.self.view_is c.in_ok-open.ensures)))

pub returns : goal.returns
returns c =
    let number = c.loop-number.number in
    let last : number ≡ c.regions-number-end.result
    = omega (arith, c.loop-number-test.false, c.loop-number.auto.number-end) in
    record {
      count = c.loop-number.invariant.count ∙ last ∙ c.regions-number-end.ensures.value
          ∙ ap (λ (grid : GridData). grid.regions) c.grid.ensures.value
          ∙ ap (λ (state : CellStateData). state.grid.regions) c.self.view_is;
      each = c.loop-number.invariant.each;
    }
