use Rattle.std.proofs.Common.{◌≡◌, [], replicate, List, slice_get, length, ◌≤◌, ◌∙◌, Some, sym, ap, subst}
use Rattle.event_stamps.specs.declared.Stamp.{Stamp}
use Rattle.event_stamps.specs.Order.{Before, end_stamp}
use Rattle.cell_grid.specs.Grid.{GridData, IsRegion}
use Rattle.region_view.specs.declared.action.Placed.{Placed}
use Rattle.region_view.specs.Laws.{HasCells}
use Rattle.fixed_motion.specs.declared.rules.Rules.{Rules}
use Rattle.region_view.specs.Placing.{IsValidPlacing}
use Rattle.region_view.specs.Views.{rows_in, IsViewOf}
use Rattle.cell_sequence.proofs.Followed.{few_rows}
use Rattle.cell_sequence.proofs.Orderly.{cell_states_are_orderly}
use Rattle.local_run.specs.declared.home.Home.{Home}
use Rattle.local_run.specs.LocalRun.{IsInPlace}
use Rattle.local_run.proofs.Opened.{view_valid, state_place, empty_run}
use Rattle.event_log.specs.Logged.{entries_in}
use Rattle.region_core.specs.Live.{run_in}
use Rattle.region_core.proofs.region.Region.open.Goals as goal

pub opening-requires-clause-count : goal.opening-requires-clause-count
opening-requires-clause-count c =
    subst (λ (placed : List Placed). length placed ≤ 65536) (sym c.placed.ensures.value)
    (few_rows c.args.state.now c.rules.ensures.kept)

pub opening-requires-clause-cells : goal.opening-requires-clause-cells
opening-requires-clause-cells c =
    subst (λ (grid : GridData). HasCells grid (slice_get c.placed.result.now))
    (sym c.grid-2.ensures.value)
    (subst (λ (placed : List Placed). HasCells c.args.state.now.grid (slice_get placed))
    (sym c.placed.ensures.value)
    (cell_states_are_orderly c.args.state.now c.rules.ensures.kept).rows.cell)

pub open-requires-clause-valid : goal.open-requires-clause-valid
open-requires-clause-valid c =
    let state = c.args.state.now in
    let sees : IsViewOf state.grid c.args.number (slice_get state.placed) c.in_ok-base.base =
    subst (λ (placed : List Placed).
    IsViewOf state.grid c.args.number (slice_get placed) c.in_ok-base.base)
    c.placed.ensures.value
    (subst (λ (grid : GridData).
    IsViewOf grid c.args.number (slice_get c.placed.result.now) c.in_ok-base.base)
    c.grid-2.ensures.value c.in_ok-base.ensures) in
    let valid = view_valid state c.args.number c.in_ok-base.base c.rules.ensures.kept sees in
    subst (λ (h : Home). IsValidPlacing h.rules h.grid (rows_in c.in_ok-base.base))
    (λ i. record {
      number = c.args.number;
      rules = sym c.rules.ensures.value i;
      grid = sym c.grid.ensures.value i;
    }) valid

pub open-requires-clause-place : goal.open-requires-clause-place
open-requires-clause-place c = record {
  home = subst IsInPlace
      (λ i. record {
        number = c.args.number;
        rules = sym c.rules.ensures.value i;
        grid = sym c.grid.ensures.value i;
      }) (state_place c.args.state.now c.args.number c.rules.ensures.kept c.requires);
  far = c.new.ensures;
  floor = subst (λ (rules : Rules). ¬ Before (end_stamp rules.end) c.floor.result) (sym c.rules.ensures.value)
      (subst (λ (s : Stamp). ¬ Before (end_stamp c.args.state.now.rules.end) s) (sym c.floor.ensures.value)
      c.floor.ensures.kept.before_end);
}

pub invariant_of-result : goal.invariant_of-result
invariant_of-result c = record {
  place = c.in_ok-live.ensures.live.place;
  alive = c.in_ok-live.ensures.live;
}

pub returns : goal.returns
unfolding empty_run
returns c = record {
  home = λ i. record {
    number = c.args.number;
    rules = c.rules.ensures.value i;
    grid = c.grid.ensures.value i;
  };
  floor = c.floor.ensures.value;
  run = (
    c.in_ok-base.base,
    subst (λ (placed : List Placed).
        IsViewOf c.args.state.now.grid c.args.number (slice_get placed) c.in_ok-base.base)
        c.placed.ensures.value
        (subst (λ (grid : GridData).
        IsViewOf grid c.args.number (slice_get c.placed.result.now) c.in_ok-base.base)
        c.grid-2.ensures.value c.in_ok-base.ensures),
    ap Some run,
  );
}
  where
    run : run_in c.floor.result c.in_ok-live.live ≡ empty_run c.args.state.now.grid.regions c.args.state.now.floor c.in_ok-base.base
    run = λ i. record {
      floor = c.floor.ensures.value i;
      base = c.in_ok-live.ensures.base i;
      heard = (c.in_ok-live.ensures.heard ∙ ap (λ (grid : GridData). replicate grid.regions []) c.grid.ensures.value) i;
      log = ap entries_in c.in_ok-live.ensures.log i;
    }

pub new-requires : goal.new-requires
new-requires c = subst (λ (grid : GridData). IsRegion grid c.args.number) (sym c.grid.ensures.value) c.requires

pub opening-requires-clause-region : goal.opening-requires-clause-region
opening-requires-clause-region c = subst (λ (grid : GridData). IsRegion grid c.args.number) (sym c.grid-2.ensures.value) c.requires
