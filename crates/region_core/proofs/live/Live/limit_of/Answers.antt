use Rattle.std.proofs.Common.{◌∙◌, Err, Result, sym, ap, subst, refl}
use Rattle.std.specs.Prelude.{IsSome}
use Rattle.std.specs.Result.{result_err}
use Rattle.std.proofs.lemmas.Option.{same_Some}
use Rattle.region_view.specs.declared.action.Action.{Action}
use Rattle.event_rules.specs.declared.change.Limit.{Limit}
use Rattle.region_view.specs.Placing.{IsValidPlacing}
use Rattle.region_view.specs.Views.{ViewData, rows_in}
use Rattle.local_run.specs.LocalRun.{IsOwn, ComesToInView}
use Rattle.local_run.proofs.Valid.{valid_now}
use Rattle.region_core.specs.Live.{run_in, now_in}
use Rattle.region_core.proofs.Traced.{now_is}
use Rattle.region_core.proofs.RunningEvents.{own_at_turn, halted_is, fails_once}
use Rattle.region_core.proofs.live.Live.limit_of.Goals as goal

pub outcome-requires-clause-valid : goal.outcome-requires-clause-valid
outcome-requires-clause-valid c =
    let home = c.args.place.now.home in
    let live = c.args.self.now in
    subst (λ (v : ViewData). IsValidPlacing home.rules home.grid (rows_in v)) (now_is live c.requires.live.body.traced)
    (valid_now home (run_in c.args.place.now.floor live) c.requires.live.place.home c.requires.live.body.right)

pub outcome-requires-clause-own : goal.outcome-requires-clause-own
outcome-requires-clause-own c =
    let home = c.args.place.now.home in
    let live = c.args.self.now in
    subst (λ (v : ViewData). IsOwn home v c.args.due.now) (now_is live c.requires.live.body.traced)
    (own_at_turn home c.args.place.now.floor live c.args.due.now c.requires.turn)

pub unwrap-requires : goal.unwrap-requires
unwrap-requires c =
    let home = c.args.place.now.home in
    let live = c.args.self.now in
    let same = fails_once home live c.args.due.now c.outcome.result c.requires.live.body.traced c.requires.fails c.outcome.ensures in
    subst IsSome (sym (c.err.ensures.value ∙ ap (λ (r : Result Action Limit). result_err r) same)) refl

pub returns : goal.returns
returns c =
    let home = c.args.place.now.home in
    let live = c.args.self.now in
    let fails = c.requires.fails in
    let same = fails_once home live c.args.due.now c.outcome.result c.requires.live.body.traced fails c.outcome.ensures in
    halted_is home (run_in c.args.place.now.floor live) c.args.due.now c.unwrap.result c.requires.turn
    (subst (λ (limit : Limit). ComesToInView home (now_in live).view c.args.due.now (Err limit))
    (same_Some fails.0 c.unwrap.result
    (sym (c.err.ensures.value ∙ ap (λ (r : Result Action Limit). result_err r) same) ∙ c.unwrap.ensures)) fails.1)

pub outcome-requires-clause-place : goal.outcome-requires-clause-place
outcome-requires-clause-place c = c.requires.live.place
