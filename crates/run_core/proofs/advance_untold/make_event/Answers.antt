use Rattle.run_core.proofs.Untold.{stand_on_cells, state_with, made_event, halts_at, ends_all}
use Rattle.run_core.proofs.advance_untold.make_event.Goals as goal

pub run_event-requires : goal.run_event-requires
run_event-requires c = (
  c.requires.stand.0,
  stand_on_cells c.args.earlier.now c.grid.result.now c.args.floor c.args.regions.now c.requires.stand.0
      c.grid.ensures.value c.requires.stand.1,
)

pub commit_cutting-requires-clause-stand : goal.commit_cutting-requires-clause-stand
commit_cutting-requires-clause-stand c =
    let earlier = c.args.earlier.now in
    let floor = c.args.floor in
    let regions = c.args.regions.now in
    let state = c.requires.stand.0 in
    let of = c.requires.stand.1 in (
      state,
      state_with earlier c.rules.result.now floor regions c.run_event.new.regions state c.rules.ensures.value of
          (c.in_ok-step.ensures state (stand_on_cells earlier c.grid.result.now floor regions state c.grid.ensures.value
          of)).stand,
    )

pub returns-in_ok-made-in-Ran : goal.returns-in_ok-made-in-Ran
returns-in_ok-made-in-Ran c = λ state of.
    let earlier = c.args.earlier.now in
    let floor = c.args.floor in
    let regions = c.args.regions.now in
    let left = c.run_event.new.regions in
    let event = c.in_ok-step.ensures state
    (stand_on_cells earlier c.grid.result.now floor regions state c.grid.ensures.value of) in
    made_event state floor of.is of.floor_is regions left c.in_ok-step.step event c.commit_cutting.new.untold
    c.in-Ran.field-0 c.in-Ran.is c.in_ok-made-in-Ran.made c.commit_cutting.new.regions
    (c.in_ok-made-in-Ran.ensures state
    (state_with earlier c.rules.result.now floor regions left state c.rules.ensures.value of event.stand))

pub returns-in-Halted : goal.returns-in-Halted
returns-in-Halted c = λ state of.
    halts_at state c.args.floor of.is of.floor_is c.args.regions.now c.run_event.new.regions c.in_ok-step.step
    (c.in_ok-step.ensures state (stand_on_cells c.args.earlier.now c.grid.result.now c.args.floor c.args.regions.now state
    c.grid.ensures.value of)) c.args.untold.now c.requires.told c.in-Halted.limit c.in-Halted.is

pub returns-in_default : goal.returns-in_default
returns-in_default c = λ state of.
    ends_all state c.args.floor of.is of.floor_is c.args.regions.now c.run_event.new.regions c.in_ok-step.step
    (c.in_ok-step.ensures state (stand_on_cells c.args.earlier.now c.grid.result.now c.args.floor c.args.regions.now state
    c.grid.ensures.value of)) c.args.untold.now c.requires.told c.in_default.not-Ran c.in_default.not-Halted
