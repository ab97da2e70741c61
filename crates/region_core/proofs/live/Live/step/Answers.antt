use Rattle.std.proofs.Common.{refl, subst}
use Rattle.local_run.specs.declared.answers.Step.TheVariants.{Halted}
use Rattle.local_run.specs.Answers.{StepsTo}
use Rattle.region_core.specs.declared.live.Live.{Live}
use Rattle.region_core.specs.Live.{run_in}
use Rattle.region_core.proofs.RunningOn.{failed_same}
use Rattle.region_core.proofs.live.Live.step.Goals as goal

pub returns-then-is_held_back-clause-steps : goal.returns-then-is_held_back-clause-steps
returns-then-is_held_back-clause-steps c = (c.is_held_back.ensures.held c.if-is_held_back.true, refl)

pub returns-in-Answer-clause-steps : goal.returns-in-Answer-clause-steps
returns-in-Answer-clause-steps c = (c.is_held_back.ensures.free c.if-is_held_back.false, c.in-Answer.ensures)

pub run_event-requires-clause-turn : goal.run_event-requires-clause-turn
run_event-requires-clause-turn c = c.in-Run.ensures

pub returns-else-branch-clause-steps : goal.returns-else-branch-clause-steps
returns-else-branch-clause-steps c =
    let home = c.args.place.now.home in
    let floor = c.args.place.now.floor in
    let new = c.run_event.new.self in
    let same = failed_same c.args.place.now c.in-Run.due c.args.self.now new _ c.if-branch.false
    c.in_ok-run_event-in-Run.ensures.steps in (
      c.is_held_back.ensures.free c.if-is_held_back.false,
      subst (λ (live : Live). StepsTo home (run_in floor live) (Halted c.limit_of.result) (run_in floor new)) same
          c.limit_of.ensures,
    )

pub take_in-requires-clause-fits : goal.take_in-requires-clause-fits
take_in-requires-clause-fits c = c.in-TakeIn.ensures

pub returns-in_ok-take_in-in-TakeIn-clause-steps : goal.returns-in_ok-take_in-in-TakeIn-clause-steps
returns-in_ok-take_in-in-TakeIn-clause-steps c =
    let fits = c.in-TakeIn.ensures in (
      c.is_held_back.ensures.free c.if-is_held_back.false,
      (
        fits.0,
        fits.1,
        (c.in-TakeIn.from, c.in-TakeIn.message, refl, fits.2, c.in_ok-take_in-in-TakeIn.ensures.run),
      ),
    )

pub returns-in_ok-take_in-in-TakeIn-clause-live : goal.returns-in_ok-take_in-in-TakeIn-clause-live
returns-in_ok-take_in-in-TakeIn-clause-live c = c.in_ok-take_in-in-TakeIn.ensures.live

pub returns-in-Answer-clause-live : goal.returns-in-Answer-clause-live
returns-in-Answer-clause-live c = c.requires.live

pub returns-then-is_held_back-clause-live : goal.returns-then-is_held_back-clause-live
returns-then-is_held_back-clause-live c = c.requires.live

pub take_in-requires-clause-live : goal.take_in-requires-clause-live
take_in-requires-clause-live c = c.requires.live

pub run_event-requires-clause-live : goal.run_event-requires-clause-live
run_event-requires-clause-live c = c.requires.live

pub next_move-requires-clause-due : goal.next_move-requires-clause-due
next_move-requires-clause-due c = c.due_beside-due.ensures c.args.place.now c.requires.live

pub next_move-requires-clause-head : goal.next_move-requires-clause-head
next_move-requires-clause-head c = c.least-head.ensures

pub next_move-requires-clause-live : goal.next_move-requires-clause-live
next_move-requires-clause-live c = c.requires.live

pub is_held_back-requires : goal.is_held_back-requires
is_held_back-requires c = c.due_beside-due.ensures c.args.place.now c.requires.live
