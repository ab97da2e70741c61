use Rattle.std.proofs.Common.{◌≡◌, ◌<◌, length, get_or, sym, ap, ◌∙◌, arith}
use Rattle.std.proofs.lemmas.Option.{slice_get-get_or}
use Rattle.cell_grid.specs.Grid.{GridData}
use Rattle.cell_sequence.specs.State.{CellStateData}
use Rattle.commit_horizon.proofs.Adopting.{none_adopted, one_more_adopted, all_adopted, all_adopted_stand}
use Rattle.commit_horizon.proofs.committed.Committed.renew_all.Goals as goal

pub loop-number-init : goal.loop-number-init
loop-number-init c = none_adopted c.args.self.now c.args.regions.now

pub loop-number-preserved : goal.loop-number-preserved
loop-number-preserved c =
    let regions = c.loop-number.regions in
    let number = c.loop-number.number in
    let found = c.index-regions-number.result in
    let all : c.regions-number-end.result ≡ length c.args.regions.now
    = c.regions-number-end.ensures.value ∙ ap (λ (grid : GridData). grid.regions) c.grid.ensures.value
    ∙ ap (λ (state : CellStateData). state.grid.regions) c.self.view_is ∙ sym c.requires in
    let within : number < length regions
    = omega (arith, all, c.loop-number-test.true, c.loop-number.invariant.count) in
    one_more_adopted c.args.self.now c.args.regions.now regions number
    (get_or regions number found) c.renew.new.region c.loop-number.invariant
    (slice_get-get_or regions number found within) c.in_ok-renew.ensures

pub returns-clause-adopted : goal.returns-clause-adopted
returns-clause-adopted c =
    let last : c.loop-number.number ≡ c.regions-number-end.result
    = omega (arith, c.loop-number-test.false, c.loop-number.auto.number-end) in
    let whole = last ∙ c.regions-number-end.ensures.value ∙ ap (λ (grid : GridData). grid.regions) c.grid.ensures.value
    ∙ ap (λ (state : CellStateData). state.grid.regions) c.self.view_is ∙ sym c.requires in
    all_adopted c.args.self.now c.args.regions.now c.loop-number.regions c.loop-number.number whole
    c.loop-number.invariant

pub returns-clause-stand : goal.returns-clause-stand
returns-clause-stand c =
    all_adopted_stand c.args.self.now c.args.regions.now c.loop-number.regions c.requires (returns-clause-adopted c)
