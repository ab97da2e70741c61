use Rattle.std.proofs.Common.{Ok, Err, sym, subst, refl}
use Rattle.region_view.specs.Placing.{IsValidPlacing}
use Rattle.region_view.specs.Views.{ViewData, rows_in}
use Rattle.local_run.specs.LocalRun.{IsOwn, ComesToInView}
use Rattle.local_run.proofs.Valid.{valid_now}
use Rattle.region_core.specs.Live.{run_in}
use Rattle.region_core.proofs.Traced.{now_is}
use Rattle.region_core.proofs.RunningEvents.{own_at_turn, turn_fits, turn_ran}
use Rattle.region_core.proofs.live.Live.run_any.Goals as goal

pub outcome-requires-clause-valid : goal.outcome-requires-clause-valid
outcome-requires-clause-valid c =
    let home = c.args.place.now.home in
    let live = c.args.self.now in
    subst (λ (v : ViewData). IsValidPlacing home.rules home.grid (rows_in v)) (now_is live c.requires.live.body.traced)
    (valid_now home (run_in c.args.place.now.floor live) c.requires.live.place.home c.requires.live.body.right)

pub outcome-requires-clause-own : goal.outcome-requires-clause-own
outcome-requires-clause-own c =
    let home = c.args.place.now.home in
    let live = c.args.self.now in
    subst (λ (v : ViewData). IsOwn home v c.args.due.now) (now_is live c.requires.live.body.traced)
    (own_at_turn home c.args.place.now.floor live c.args.due.now c.requires.turn)

pub run-requires-clause-fits : goal.run-requires-clause-fits
run-requires-clause-fits c =
    let home = c.args.place.now.home in
    let live = c.args.self.now in
    turn_fits home c.args.place.now.floor live c.args.due.now c.in-Ok.action c.requires.live.place.home c.requires.live.body c.requires.turn
    (subst (λ (v : ViewData). ComesToInView home v c.args.due.now (Ok c.in-Ok.action))
    (sym (now_is live c.requires.live.body.traced)) c.in-Ok.ensures)

pub returns-in_ok-run-in-Ok-clause-steps : goal.returns-in_ok-run-in-Ok-clause-steps
returns-in_ok-run-in-Ok-clause-steps c =
    let home = c.args.place.now.home in
    let live = c.args.self.now in
    turn_ran home c.args.place.now.floor live c.args.due.now c.in-Ok.action (run_in c.args.place.now.floor c.run.new.self)
    c.requires.live.place.home c.requires.live.body c.requires.turn
    (subst (λ (v : ViewData). ComesToInView home v c.args.due.now (Ok c.in-Ok.action))
    (sym (now_is live c.requires.live.body.traced)) c.in-Ok.ensures)
    c.in_ok-run-in-Ok.ensures.run

pub returns-in-Err-clause-steps : goal.returns-in-Err-clause-steps
returns-in-Err-clause-steps c =
    let home = c.args.place.now.home in
    let live = c.args.self.now in (
      refl,
      (
        c.in-Err.field-0,
        subst (λ (v : ViewData). ComesToInView home v c.args.due.now (Err c.in-Err.field-0))
            (sym (now_is live c.requires.live.body.traced)) c.in-Err.ensures,
      ),
    )

pub returns-in_ok-run-in-Ok-clause-live : goal.returns-in_ok-run-in-Ok-clause-live
returns-in_ok-run-in-Ok-clause-live c = c.in_ok-run-in-Ok.ensures.live

pub returns-in-Err-clause-live : goal.returns-in-Err-clause-live
returns-in-Err-clause-live c = c.requires.live

pub run-requires-clause-live : goal.run-requires-clause-live
run-requires-clause-live c = c.requires.live

pub outcome-requires-clause-place : goal.outcome-requires-clause-place
outcome-requires-clause-place c = c.requires.live.place
