use Rattle.std.proofs.Common.{◌∙◌, sym, refl, Ok, Err}
use Rattle.event_rules.specs.declared.change.Limit.TheVariants.{Rounds}
use Rattle.region_view.specs.declared.action.Action.TheVariants.{Cross}
use Rattle.region_view.specs.Views.{rows_in}
use Rattle.region_core.specs.Live.{run_in}
use Rattle.region_core.proofs.RunningEvents.{valid_row, crossing_event, crossing_in_range, crossing_comes, crossing_is_untold, turn_fits, turn_ran}
use Rattle.region_core.proofs.live.Live.run_crossing.Goals as goal

pub crossed_cell-requires-clause-valid : goal.crossed_cell-requires-clause-valid
crossed_cell-requires-clause-valid c =
    let here = sym c.in-Some.ensures.0 ∙ sym c.get.ensures ∙ c.unwrap-row.ensures in
    (valid_row c.args.place.now.home c.args.place.now.floor c.args.self.now c.args.due.now.first c.unwrap-row.result
    c.requires.live.place.home c.requires.live.body here).0

pub crossed_cell-requires-clause-base : goal.crossed_cell-requires-clause-base
crossed_cell-requires-clause-base c =
    let here = sym c.in-Some.ensures.0 ∙ sym c.get.ensures ∙ c.unwrap-row.ensures in
    (crossing_event c.args.place.now.home c.args.place.now.floor c.args.self.now c.args.due.now c.unwrap-row.result
    c.requires.live.body c.requires.turn c.requires.kind here).0.leaving.base

pub crossed_cell-requires-clause-tick : goal.crossed_cell-requires-clause-tick
crossed_cell-requires-clause-tick c =
    let home = c.args.place.now.home in
    let due = c.args.due.now in
    let row = c.unwrap-row.result in
    let here = sym c.in-Some.ensures.0 ∙ sym c.get.ensures ∙ c.unwrap-row.ensures in
    crossing_in_range home due row c.requires.live.place.home
    (crossing_event home c.args.place.now.floor c.args.self.now due row c.requires.live.body c.requires.turn c.requires.kind here)

pub crossed_cell-requires-clause-inside : goal.crossed_cell-requires-clause-inside
crossed_cell-requires-clause-inside c =
    let here = sym c.in-Some.ensures.0 ∙ sym c.get.ensures ∙ c.unwrap-row.ensures in
    (crossing_event c.args.place.now.home c.args.place.now.floor c.args.self.now c.args.due.now c.unwrap-row.result
    c.requires.live.body c.requires.turn c.requires.kind here).0.inside

pub are_far-is_untold-requires-clause-cell : goal.are_far-is_untold-requires-clause-cell
are_far-is_untold-requires-clause-cell c =
    let here = sym c.in-Some.ensures.0 ∙ sym c.get.ensures ∙ c.unwrap-row.ensures in
    (valid_row c.args.place.now.home c.args.place.now.floor c.args.self.now c.args.due.now.first c.unwrap-row.result
    c.requires.live.place.home c.requires.live.body here).1

pub cross_and_send-requires-clause-fits : goal.cross_and_send-requires-clause-fits
cross_and_send-requires-clause-fits c =
    let home = c.args.place.now.home in
    let live = c.args.self.now in
    let due = c.args.due.now in
    let action = Cross due c.in-Some-crossed_cell.cell in
    let here = sym c.in-Some.ensures.0 ∙ sym c.get.ensures ∙ c.unwrap-row.ensures in
    turn_fits home c.args.place.now.floor live due action c.requires.live.place.home c.requires.live.body c.requires.turn
    (crossing_comes home c.args.place.now.floor live due c.unwrap-row.result (Ok action) c.requires.live.body c.requires.kind here
    c.in-Some-crossed_cell.ensures.crossed)

pub cross_and_send-requires-clause-untold : goal.cross_and_send-requires-clause-untold
cross_and_send-requires-clause-untold c =
    let here = sym c.in-Some.ensures.0 ∙ sym c.get.ensures ∙ c.unwrap-row.ensures in
    λ far. crossing_is_untold c.args.place.now.home (rows_in c.args.self.now.view) c.args.due.now
    c.in-Some-crossed_cell.cell c.unwrap-row.result here (c.are_far-is_untold.ensures far)

pub returns-in_ok-cross_and_send-in-Some-crossed_cell-clause-steps : goal.returns-in_ok-cross_and_send-in-Some-crossed_cell-clause-steps
returns-in_ok-cross_and_send-in-Some-crossed_cell-clause-steps c =
    let home = c.args.place.now.home in
    let live = c.args.self.now in
    let due = c.args.due.now in
    let action = Cross due c.in-Some-crossed_cell.cell in
    let here = sym c.in-Some.ensures.0 ∙ sym c.get.ensures ∙ c.unwrap-row.ensures in
    turn_ran home c.args.place.now.floor live due action (run_in c.args.place.now.floor c.cross_and_send.new.self)
    c.requires.live.place.home c.requires.live.body c.requires.turn
    (crossing_comes home c.args.place.now.floor live due c.unwrap-row.result (Ok action) c.requires.live.body c.requires.kind here
    c.in-Some-crossed_cell.ensures.crossed)
    c.in_ok-cross_and_send-in-Some-crossed_cell.ensures.run

pub returns-in-None-clause-steps : goal.returns-in-None-clause-steps
returns-in-None-clause-steps c =
    let home = c.args.place.now.home in
    let live = c.args.self.now in
    let due = c.args.due.now in
    let here = sym c.in-Some.ensures.0 ∙ sym c.get.ensures ∙ c.unwrap-row.ensures in (
      refl,
      (
        Rounds due,
        crossing_comes home c.args.place.now.floor live due c.unwrap-row.result (Err (Rounds due)) c.requires.live.body
            c.requires.kind here c.in-None.ensures.crossed,
      ),
    )

pub returns-in_ok-cross_and_send-in-Some-crossed_cell-clause-live : goal.returns-in_ok-cross_and_send-in-Some-crossed_cell-clause-live
returns-in_ok-cross_and_send-in-Some-crossed_cell-clause-live c = c.in_ok-cross_and_send-in-Some-crossed_cell.ensures.live

pub returns-in-None-clause-live : goal.returns-in-None-clause-live
returns-in-None-clause-live c = c.requires.live

pub returns-in_default-clause-steps : goal.returns-in_default-clause-steps
returns-in_default-clause-steps c = c.run_any.ensures.steps

pub returns-in_default-clause-live : goal.returns-in_default-clause-live
returns-in_default-clause-live c = c.run_any.ensures.live

pub cross_and_send-requires-clause-live : goal.cross_and_send-requires-clause-live
cross_and_send-requires-clause-live c = c.requires.live

pub crossed_cell-requires-clause-checked : goal.crossed_cell-requires-clause-checked
crossed_cell-requires-clause-checked c = c.requires.live.place.home.checked

pub run_any-requires-clause-live : goal.run_any-requires-clause-live
run_any-requires-clause-live c = c.requires.live

pub run_any-requires-clause-turn : goal.run_any-requires-clause-turn
run_any-requires-clause-turn c = c.requires.turn

pub are_far-is_untold-requires-clause-place : goal.are_far-is_untold-requires-clause-place
are_far-is_untold-requires-clause-place c = c.requires.live.place
